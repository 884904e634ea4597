-- Where direct calls and calls through a queue end.
use Rattle.std.specs.Prelude.{◌≡◌, ℕ, List, [], is_some, None, Result}
use Rattle.board.specs.declared.open.Open.{Open}
use Rattle.effects.specs.declared.effect.Kind.{Kind as Ask}
use Rattle.record.specs.declared.fault.Fault.{Fault as Misread}
use Rattle.record.specs.declared.kind.Kind.{Kind}
use Rattle.queue.specs.Queues.{Queue}
use Rattle.queue.specs.declared.message.Message.{Message}
use Rattle.state.specs.Serving.{served}
use Rattle.state.specs.Settled.{settled}
use Rattle.state.specs.States.{held}
use Rattle.state.specs.declared.state.State.{State}
use Rattle.views.specs.declared.Viewable as viewable
use Rattle.history.specs.Events.{Event, Use}
use Rattle.history.specs.Uses.{Reached}
use Rattle.both_ways.specs.Runs.{CalledInOrder, Through, AllCarry, said, VerdictsAgree, NoneFinalizedCovered}

-- two resolvers with their boards: the same asks are open, with the same targets, and the same views are settled and
-- served
pub record Alike {R : Type 0} {g : viewable.Ghosts R} (L : ℕ) (s t : State R g) (os ps : List Open) : Type 0 where
  pub open_asks : os ≡ ps
  pub settled_views : (k : Ask) (v : ℕ) → settled L k v (held s) ≡ settled L k v (held t)
  pub served_views : (v : ℕ) → is_some (served L v (held s)) ≡ is_some (served L v (held t))

-- nothing waits
pub record Emptied {P : Type 0} (q : Queue P) : Type 0 where
  pub finalization : q.finalization ≡ None
  pub messages : q.messages ≡ []

-- one resolver is called directly with messages, another of the same term length with what comes out of a queue to which
-- they are offered, until none waits; neither resolver refuses, and the queue does not
pub record BothWays {R P : Type 0} {g : viewable.Ghosts R} (read : P → Result R Misread) (sort : R → Kind) (era : R → ℕ) (L : ℕ) (ms : List (Message P)) (s t : State R g) (os ps : List Open) : Type 0 where
  pub one : Use R
  pub other : Use R
  pub length : one.length ≡ L
  pub same_length : other.length ≡ L
  pub direct : List (Event R)
  pub directly : CalledInOrder read ms direct
  pub directly_reached : Reached sort era one direct s os
  pub out : List (Message P)
  pub left : Queue P
  pub queued : Through ms out left
  pub emptied : Emptied left
  pub later : List (Event R)
  pub then : CalledInOrder read out later
  pub then_reached : Reached sort era other later t ps

-- then both end alike, if each message carries its record's kind and view, verdicts on one view agree, and no
-- finalization falls on a view that a nullification covers
abbrev pub EndAlike : {R : Type 0} (P : Type 0) (g : viewable.Ghosts R) (read : P → Result R Misread) (sort : R → Kind) (era : R → ℕ) → Type 0
EndAlike {R} P g read sort era = (L : ℕ) (ms : List (Message P)) (s t : State R g) (os ps : List Open) → BothWays read sort era L ms s t os ps → AllCarry read g.viewed sort ms → VerdictsAgree g.viewed sort (said read ms) → NoneFinalizedCovered g.viewed sort L (said read ms) → Alike L s t os ps
