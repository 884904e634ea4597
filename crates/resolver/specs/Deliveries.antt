-- What comes of a delivery.
use Rattle.std.specs.Prelude.{◌≡◌, ℕ, Bool, true, false, cond, ◌&&◌, List, [], length, filter, Some, None, Option, Ok, Err, Result, ◌==◌, nat_le, nat_lt}
use Rattle.board.specs.Asks.{kind_of}
use Rattle.board.specs.declared.ask.Ask.{Ask}
use Rattle.effects.specs.declared.listed.Effects.{Effects}
use Rattle.effects.specs.Lists.{Listed}
use Rattle.record.specs.declared.fault.Fault.{Fault as Misread}
use Rattle.record.specs.declared.kind.Kind.{Kind}
use Rattle.record.specs.declared.kind.Kind.TheVariants.{Notarization, Nullification, Finalization}
use Rattle.resolver.specs.declared.fault.Fault.{Fault}
use Rattle.resolver.specs.declared.fault.Fault.TheVariants.{State as OfState, WrongAsks}
use Rattle.resolver.specs.declared.outcome.Delivered.{Delivered}
use Rattle.resolver.specs.declared.outcome.Outcome.{Outcome}
use Rattle.resolver.specs.declared.outcome.Outcome.TheVariants.{Ignored, Invalid, Unresolved, Partial, Complete, LetGo}
use Rattle.state.specs.Answers.{Answer, is_notarization, too_few, evidence_answer}
use Rattle.state.specs.Settled.{settled, key_settled}
use Rattle.state.specs.declared.fault.Fault.TheVariants.{TooFewPlaces}
use Rattle.state.specs.declared.state.State.{State}
use Rattle.store.specs.Steps.{updated}
use Rattle.store.specs.Values.{Values, has_failed}
use Rattle.terms.specs.Terms.{covering}
use Rattle.views.specs.declared.Viewable as viewable

-- a nullification serves the views that it covers, the others their own view and those below it
abbrev pub serves : ℕ → Kind → ℕ → ℕ → Bool
serves L Nullification u v = covering L u v
serves L Notarization u v = nat_le v u
serves L Finalization u v = nat_le v u

-- the outcome, by how many of the asks are settled before and after
abbrev pub outcome_of : ℕ → ℕ → ℕ → Outcome
outcome_of n before after = cond (before == n) LetGo (cond (after == n) Complete (cond (nat_lt before after) Partial Unresolved))

abbrev pub untaken : Outcome → Delivered
untaken o = record { outcome = o; taken = false }

abbrev pub with_taken : Outcome → Delivered
with_taken o = record { outcome = o; taken = true }

module _ {R : Type 0} {g : viewable.Ghosts R} (L : ℕ) where
  -- how many of the asks are settled at a view
  abbrev pub settled_asks : ℕ → List Ask → Values R g → ℕ
  settled_asks v qs s = length (filter (λ a. settled L (kind_of a) v s) qs)

-- a notarization that failed has nothing to add
abbrev pub is_obsolete : {R : Type 0} {g : viewable.Ghosts R} → Kind → ℕ → Values R g → Bool
is_obsolete k u s = is_notarization k && has_failed u s

-- from 1 to 16 asks
abbrev pub asks_allowed : List Ask → Bool
asks_allowed qs = nat_le 1 (length qs) && nat_le (length qs) 16

-- the record, if it is one and it passes
abbrev pub if_valid : {R : Type 0} → (R → Bool) → Result R Misread → Option R
if_valid valid (Ok r) = cond (valid r) (Some r) None
if_valid valid (Err f) = None

abbrev pub if_parsed : {R X : Type 0} → Option R → X → (R → X) → X
if_parsed None x f = x
if_parsed (Some r) x f = f r

-- the state's refusal, or that the record was taken
abbrev pub taken_answer : Answer → Result Bool Fault
taken_answer (Ok u) = Ok true
taken_answer (Err f) = Err (OfState f)

-- the state's refusal, or what came of it
abbrev pub if_taken : Answer → Delivered → Result Delivered Fault
if_taken (Ok u) d = Ok d
if_taken (Err f) d = Err (OfState f)

module _ {R : Type 0} {g : viewable.Ghosts R} (L : ℕ) (sort : R → Kind) (qs : List Ask) (v : ℕ) where
  -- a record that passed
  abbrev pub judged : R → Values R g → Result Delivered Fault
  judged r s =
      cond (is_obsolete (sort r) (g.viewed r) s)
      (Ok (untaken (outcome_of (length qs) (settled_asks L v qs s) (settled_asks L v qs s))))
      (if_taken (evidence_answer L (sort r) r s) (with_taken (outcome_of (length qs) (settled_asks L v qs s) (settled_asks L v qs (updated L (sort r) r s)))))

  -- what is settled, then the record
  abbrev pub delivery_answer : (R → Bool) → Result R Misread → Values R g → Result Delivered Fault
  delivery_answer valid read s = cond (key_settled L v s) (Ok (untaken Ignored)) (if_parsed (if_valid valid read) (Ok (untaken Invalid)) (λ r. judged r s))

-- the tests that come before: the host's places, then the asks
abbrev pub delivery_test : Bool → ℕ → List Ask → Result (Unit {0}) Fault
delivery_test fit places qs = cond (too_few fit places) (Err (OfState TooFewPlaces)) (cond (asks_allowed qs) (Ok tt) (Err WrongAsks))

abbrev pub tested : {X : Type 0} → Result (Unit {0}) Fault → Result X Fault → Result X Fault
tested (Ok u) later = later
tested (Err f) later = Err f

-- nothing was recorded, and the list of effects is empty
pub record Nothing {R : Type 0} {g : viewable.Ghosts R} (before after : State R g) (e e' : Effects) : Type 0 where
  pub state : after ≡ before
  pub effects : Listed [] e e'

-- the record passes: it serves the view, is of the epoch, and is accepted
abbrev pub is_valid : {R : Type 0} → ℕ → (R → Kind) → (R → ℕ) → (R → ℕ) → (R → Bool) → ℕ → ℕ → R → Bool
is_valid L sort viewed era accepted epoch v r = serves L (sort r) (viewed r) v && (era r == epoch && accepted r)
