-- Messages that are called directly, and through a queue.
use Rattle.std.specs.Prelude.{◌≡◌, ℕ, ◌⊎◌, List, [], ◌++◌, length, Result}
use Rattle.board.specs.declared.open.Open.{Open}
use Rattle.both_ways.specs.declared.fault.Fault.{Fault}
use Rattle.both_ways.specs.declared.fault.Fault.TheVariants.{Resolver as OfResolver}
use Rattle.queue.specs.Queues.{Queue, drained}
use Rattle.queue.specs.declared.message.Message.{Message}
use Rattle.record.specs.declared.fault.Fault.{Fault as Misread}
use Rattle.record.specs.declared.kind.Kind.{Kind}
use Rattle.resolver.specs.declared.fault.Fault.{Fault as Refused}
use Rattle.state.specs.declared.state.State.{State}
use Rattle.views.specs.declared.Viewable as viewable
use Rattle.both_ways.specs.Calling.{AllCalled, StopsAt}
use Rattle.both_ways.specs.Ends.{Alike, Emptied}
use Rattle.both_ways.specs.Queueing.{so_far, AllThrough, Stops}
use Rattle.both_ways.specs.Runs.{AllCarry, said, VerdictsAgree, NoneFinalizedCovered}
use Rattle.history.specs.Events.{Use}
use Rattle.history.specs.Uses.{Reached}

-- all that comes out of a queue to which messages are offered: after each as `cuts` says, and at the end the rest
abbrev pub all_out : {P : Type 0} → List (Message P) → List ℕ → ℕ → Queue P → List (Message P)
all_out ms cuts places q =
    let before = so_far ms cuts places q (length ms) in
    before.0 ++ (drained 65 before.1).0

module _ {R P : Type 0} {g : viewable.Ghosts R} (read : P → Result R Misread) (sort : R → Kind) (era : R → ℕ) (ms : List (Message P)) (cuts : List ℕ) (places : ℕ) where
  -- all were called, both ways, and none waits
  pub record Ran (s s' : State R g) (os os' : List Open) (t t' : State R g) (ps ps' : List Open) (q q' : Queue P) : Type 0 where
    pub directly : AllCalled read sort era ms s s' os os'
    pub through : AllThrough read sort era ms (all_out ms cuts places q) q q' t t' ps ps'
    pub emptied : Emptied q'

  -- a direct call was refused, and nothing was offered
  pub record StoppedDirectly (f : Fault) (s s' : State R g) (os os' : List Open) (t t' : State R g) (ps ps' : List Open) (q q' : Queue P) : Type 0 where
    pub fault : Refused
    pub is : f ≡ OfResolver fault
    pub stops : StopsAt read sort era ms fault s s' os os'
    pub state : t' ≡ t
    pub asks : ps' ≡ ps
    pub queue : q' ≡ q

  -- all were called directly, and the queue refused a message or the resolver behind it a call
  pub record StoppedBehind (f : Fault) (s s' : State R g) (os os' : List Open) (t t' : State R g) (ps ps' : List Open) (q q' : Queue P) : Type 0 where
    pub directly : AllCalled read sort era ms s s' os os'
    pub stops : Stops read sort era ms f q q' t t' ps ps'

  abbrev pub Stopped : Fault → State R g → State R g → List Open → List Open → State R g → State R g → List Open → List Open → Queue P → Queue P → Type 0
  Stopped f s s' os os' t t' ps ps' q q' = StoppedDirectly f s s' os os' t t' ps ps' q q' ⊎ StoppedBehind f s s' os os' t t' ps ps' q q'

  -- where both began fresh, with nothing waiting, both end alike, if each message carries its record's kind and view,
  -- verdicts on one view agree, and no finalization falls on a view that a nullification covers
  abbrev pub FreshEndAlike : State R g → State R g → List Open → List Open → State R g → State R g → List Open → List Open → Queue P → Type 0
  FreshEndAlike s s' os os' t t' ps ps' q =
      (u w : Use R) (L : ℕ) → u.length ≡ L → w.length ≡ L → Reached sort era u [] s os → Reached sort era w [] t ps → Emptied q
      → AllCarry read g.viewed sort ms → VerdictsAgree g.viewed sort (said read ms) → NoneFinalizedCovered g.viewed sort L (said read ms)
      → Alike L s' t' os' ps'
