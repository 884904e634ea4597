-- The call of a message.
use Rattle.std.specs.Prelude.{◌≡◌, ℕ, Bool, true, List, ◌∷◌, ◌++◌, Ok, Err, Result}
use Rattle.board.specs.declared.open.Open.{Open}
use Rattle.effects.specs.Lists.{Listed}
use Rattle.effects.specs.declared.listed.Effects.{Effects}
use Rattle.record.specs.declared.fault.Fault.{Fault as Misread}
use Rattle.record.specs.declared.kind.Kind.{Kind}
use Rattle.resolver.specs.declared.fault.Fault.{Fault}
use Rattle.queue.specs.declared.message.Message.{Message}
use Rattle.queue.specs.declared.message.Message.TheVariants.{Updated, Certified, Resolve, Replayed}
use Rattle.state.specs.States.{held, term}
use Rattle.state.specs.declared.state.State.{State}
use Rattle.store.specs.Steps.{updated_effects, certified_effects, replayed_effects}
use Rattle.views.specs.declared.Viewable as viewable
use Rattle.history.specs.Events.{Event, updated, certified, replayed, resolved, Use}
use Rattle.history.specs.Uses.{Reached}
use Rattle.both_ways.specs.Runs.{CalledInOrder}

abbrev pub done : Result Bool Fault → Result (Unit {0}) Fault
done (Ok b) = Ok tt
done (Err f) = Err f

-- what an accepted call answers: of a request whether it asks, of all others yes
abbrev pub Says : {P : Type 0} → Message P → Bool → Type 0
Says (Updated k v p) b = b ≡ true
Says (Certified k v d p) b = b ≡ true
Says (Resolve w v k t) b = Unit {0}
Says Replayed b = b ≡ true

module _ {R P : Type 0} (read : P → Result R Misread) where
  -- the call of a message with its answer: of a request whether it asks, of all others that they were accepted
  abbrev pub event_of : Message P → ℕ → Result Bool Fault → Event R
  event_of (Updated k v p) n a = updated (read p) n (done a)
  event_of (Certified k v b p) n a = certified b (read p) n (done a)
  event_of (Resolve w v k t) n a = resolved w v k t a
  event_of Replayed n a = replayed n (done a)

  -- what an accepted call leaves in the host's list of effects: a request leaves it
  abbrev pub Lists : {g : viewable.Ghosts R} (sort : R → Kind) → Message P → State R g → Effects → Effects → Type 0
  Lists sort (Updated k v p) s e e' = (x : R) × (read p ≡ Ok x) × Listed (updated_effects (term s) (sort x) x (held s)) e e'
  Lists sort (Certified k v b p) s e e' = (x : R) × (read p ≡ Ok x) × Listed (certified_effects (term s) b x (held s)) e e'
  Lists sort (Resolve w v k t) s e e' = e' ≡ e
  Lists sort Replayed s e e' = Listed (replayed_effects (term s) (held s)) e e'

  module _ {g : viewable.Ghosts R} (sort : R → Kind) (era : R → ℕ) where
    -- from any point where some messages were called, these are called too
    abbrev pub AllCalled : List (Message P) → State R g → State R g → List Open → List Open → Type 0
    AllCalled ms s s' os os' = (u : Use R) (before : List (Message P)) (h : List (Event R)) → CalledInOrder read before h → Reached sort era u h s os → (i : List (Event R)) × CalledInOrder read (before ++ ms) i × Reached sort era u i s' os'

    -- or up to one that is refused
    pub record StopsAt (ms : List (Message P)) (f : Fault) (s s' : State R g) (os os' : List Open) : Type 0 where
      pub first : List (Message P)
      pub refused : Message P
      pub others : List (Message P)
      pub are : ms ≡ first ++ refused ∷ others
      pub places : ℕ
      pub stops : (u : Use R) (before : List (Message P)) (h : List (Event R)) → CalledInOrder read before h → Reached sort era u h s os → (i : List (Event R)) × CalledInOrder read (before ++ first) i × Reached sort era u (event_of refused places (Err f) ∷ i) s' os'
