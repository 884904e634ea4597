-- What a call leaves: of the state, of the host's list of effects, and of the open asks.
use Rattle.std.specs.Prelude.{◌≡◌, ℕ, Bool, true, false, cond, not, ◌&&◌, List, Ok, Err, Result, nat_lt}
use Rattle.board.specs.Boards.{ancestry_full}
use Rattle.board.specs.declared.fault.Fault.TheVariants.{TooManyAsks}
use Rattle.board.specs.declared.open.Open.{Open}
use Rattle.effects.specs.declared.effect.Kind.{Kind as Ask}
use Rattle.effects.specs.declared.listed.Effects.{Effects}
use Rattle.record.specs.declared.kind.Kind.{Kind}
use Rattle.resolver.specs.Applied.{applied}
use Rattle.resolver.specs.declared.fault.Fault.{Fault}
use Rattle.resolver.specs.declared.fault.Fault.TheVariants.{State as OfState, Board as OfBoard}
use Rattle.state.specs.Answers.{Answer}
use Rattle.state.specs.Calls.{Evidence, Verdict, Marker}
use Rattle.state.specs.Settled.{settled}
use Rattle.state.specs.States.{held, term}
use Rattle.state.specs.declared.state.State.{State}
use Rattle.store.specs.Steps.{updated_effects, certified_effects, replayed_effects}
use Rattle.store.specs.Values.{Values}
use Rattle.views.specs.declared.Viewable as viewable

-- the state's answer, with its fault carried whole
abbrev pub answer_of : Answer → Result (Unit {0}) Fault
answer_of (Ok u) = Ok u
answer_of (Err f) = Err (OfState f)

module _ {R : Type 0} {g : viewable.Ghosts R} (before after : State R g) (e e' : Effects) (os os' : List Open) where
  -- evidence was recorded, and the board follows
  pub record Taken (k : Kind) (h : R) : Type 0 where
    pub state : Evidence before after e e' k h
    pub asks : os' ≡ applied (updated_effects (term before) k h (held before)) os

  -- a verdict was recorded
  pub record Judged (pass : Bool) (h : R) : Type 0 where
    pub state : Verdict before after e e' pass h
    pub asks : os' ≡ applied (certified_effects (term before) pass h (held before)) os

  -- the end of replay was recorded
  pub record Ended : Type 0 where
    pub state : Marker before after e e'
    pub asks : os' ≡ applied (replayed_effects (term before) (held before)) os

module _ {R : Type 0} {g : viewable.Ghosts R} (L : ℕ) where
  -- a proposal's ancestry is asked for below it, if it is not settled
  abbrev pub is_wanted : ℕ → ℕ → Ask → Values R g → Bool
  is_wanted p v k s = nat_lt v p && not (settled L k v s)

  abbrev pub request_answer : ℕ → ℕ → Ask → List Open → Values R g → Result Bool Fault
  request_answer p v k os s = cond (is_wanted p v k s) (cond (ancestry_full v k os) (Err (OfBoard TooManyAsks)) (Ok true)) (Ok false)

-- the first fact if something is so, else the second
abbrev pub If : Bool → Type 0 → Type 0 → Type 0
If true P Q = P
If false P Q = Q
