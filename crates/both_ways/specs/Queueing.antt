-- Messages that are offered to a queue, which is emptied after each of them.
use Rattle.std.specs.Prelude.{◌≡◌, ℕ, zero, suc, min, true, List, [], ◌∷◌, ◌++◌, get_or, Result}
use Rattle.board.specs.declared.open.Open.{Open}
use Rattle.both_ways.specs.declared.fault.Fault.{Fault}
use Rattle.both_ways.specs.declared.fault.Fault.TheVariants.{Resolver as OfResolver, Queue as OfQueue}
use Rattle.queue.specs.Queues.{Queue, offered, finds_full, drained}
use Rattle.queue.specs.declared.fault.Fault.TheVariants.{Full}
use Rattle.queue.specs.declared.message.Message.{Message}
use Rattle.queue.specs.declared.message.Message.TheVariants.{Replayed}
use Rattle.record.specs.declared.fault.Fault.{Fault as Misread}
use Rattle.record.specs.declared.kind.Kind.{Kind}
use Rattle.resolver.specs.declared.fault.Fault.{Fault as Refused}
use Rattle.state.specs.declared.state.State.{State}
use Rattle.views.specs.declared.Viewable as viewable
use Rattle.history.specs.Events.{Event, Use}
use Rattle.history.specs.Uses.{Reached}
use Rattle.both_ways.specs.Calling.{StopsAt}
use Rattle.both_ways.specs.Runs.{CalledInOrder, Through}

-- what came out of a queue, and what it is then, after the first of some messages were offered: after each it was
-- emptied into as many places as `cuts` says, none where it says nothing, but no more than there are
unfoldable pub so_far : {P : Type 0} (ms : List (Message P)) (cuts : List ℕ) (places : ℕ) → Queue P → ℕ → List (Message P) × Queue P
so_far ms cuts places q zero = ([], q)
so_far ms cuts places q (suc i) =
    let before = so_far ms cuts places q i in
    let next = drained (min (get_or cuts i 0) places) (offered (get_or ms i Replayed) before.1) in
    (before.0 ++ next.0, next.1)

module _ {R P : Type 0} {g : viewable.Ghosts R} (read : P → Result R Misread) (sort : R → Kind) (era : R → ℕ) where
  -- from any point where messages were offered and some came out, these are offered too, and those come out and are called
  abbrev pub AllThrough : (ms out : List (Message P)) → Queue P → Queue P → State R g → State R g → List Open → List Open → Type 0
  AllThrough ms out q q' s s' os os' = (u : Use R) (before came : List (Message P)) (h : List (Event R)) → Through before came q → CalledInOrder read came h → Reached sort era u h s os → (i : List (Event R)) × Through (before ++ ms) (came ++ out) q' × CalledInOrder read (came ++ out) i × Reached sort era u i s' os'

  -- the queue refuses a message
  pub record FullAt (ms : List (Message P)) (q q' : Queue P) (s s' : State R g) (os os' : List Open) : Type 0 where
    pub first : List (Message P)
    pub refused : Message P
    pub others : List (Message P)
    pub are : ms ≡ first ++ refused ∷ others
    pub out : List (Message P)
    pub offered : AllThrough first out q q' s s' os os'
    pub full : finds_full refused q' ≡ true

  -- or a call of what came out of it is refused
  pub record RefusedAt (ms : List (Message P)) (f : Refused) (q q' : Queue P) (s s' : State R g) (os os' : List Open) : Type 0 where
    pub first : List (Message P)
    pub others : List (Message P)
    pub are : ms ≡ first ++ others
    pub out : List (Message P)
    pub queue : Queue P
    pub state : State R g
    pub asks : List Open
    pub offered : AllThrough first out q queue s state os asks
    pub places : ℕ
    pub left : q' ≡ (drained places queue).1
    pub stops : StopsAt read sort era (drained places queue).0 f state s' asks os'

  abbrev pub Stops : List (Message P) → Fault → Queue P → Queue P → State R g → State R g → List Open → List Open → Type 0
  Stops ms (OfQueue f) q q' s s' os os' = (f ≡ Full) × FullAt ms q q' s s' os os'
  Stops ms (OfResolver f) q q' s s' os os' = RefusedAt ms f q q' s s' os os'
