-- What the accepted calls of one resolver say, newest first. `viewed` tells the view of a record, `sort` its kind.
use Rattle.std.specs.Prelude.{ℕ, ◌+◌, max, Bool, true, false, cond, not, ◌&&◌, ◌||◌, List, [], ◌∷◌, is_none, Some, None, filter, Option, ◌==◌, nat_le, nat_lt}
use Rattle.board.specs.Asks.{same_kind}
use Rattle.effects.specs.declared.effect.Kind.{Kind as Ask}
use Rattle.effects.specs.declared.effect.Kind.TheVariants as ask
use Rattle.planning.specs.Gaps.{span}
use Rattle.record.specs.declared.kind.Kind.{Kind}
use Rattle.record.specs.declared.kind.Kind.TheVariants.{Notarization, Nullification, Finalization}
use Rattle.state.specs.Answers.{is_notarization}
use Rattle.state.specs.Serving.{or_else}
use Rattle.terms.specs.Terms.{end, is_start, covering}

-- an accepted call: evidence is what was given as such, and what a delivery took
pub data Call (R : Type 0) : Type 0 where
  evidence : (held : R) → Call R
  verdict : (pass : Bool) (held : R) → Call R
  marker : Call R
  request : (view : ℕ) (kind : Ask) (target : Option ℕ) → Call R

abbrev pub is_nullification : Kind → Bool
is_nullification Notarization = false
is_nullification Nullification = true
is_nullification Finalization = false

abbrev pub is_finalization : Kind → Bool
is_finalization Notarization = false
is_finalization Nullification = false
is_finalization Finalization = true

-- some accepted call passes a test
unfoldable pub some : {R : Type 0} → (Call R → Bool) → List (Call R) → Bool
some p [] = false
some p (c ∷ h) = p c || some p h

-- the highest of the views that accepted calls give, 0 if there is none
unfoldable pub highest : {R : Type 0} → (Call R → ℕ) → List (Call R) → ℕ
highest f [] = 0
highest f (c ∷ h) = max (highest f h) (f c)

abbrev pub by_evidence : {R : Type 0} → (R → Bool) → Call R → Bool
by_evidence p (evidence x) = p x
by_evidence p (verdict b x) = false
by_evidence p marker = false
by_evidence p (request v k t) = false

abbrev pub by_verdict : {R : Type 0} → (Bool → R → Bool) → Call R → Bool
by_verdict p (evidence x) = false
by_verdict p (verdict b x) = p b x
by_verdict p marker = false
by_verdict p (request v k t) = false

abbrev pub is_marker : {R : Type 0} → Call R → Bool
is_marker (evidence x) = false
is_marker (verdict b x) = false
is_marker marker = true
is_marker (request v k t) = false

abbrev pub is_request : {R : Type 0} → Ask → ℕ → Call R → Bool
is_request k v (evidence x) = false
is_request k v (verdict b x) = false
is_request k v marker = false
is_request k v (request w j t) = same_kind j k && w == v

abbrev pub marked : {R : Type 0} → List (Call R) → Bool
marked h = some is_marker h

abbrev pub requested : {R : Type 0} → Ask → ℕ → List (Call R) → Bool
requested k v h = some (is_request k v) h

-- a request that names no seat
abbrev pub is_open_request : {R : Type 0} → Ask → ℕ → Call R → Bool
is_open_request k v (evidence x) = false
is_open_request k v (verdict b x) = false
is_open_request k v marker = false
is_open_request k v (request w j t) = is_none t && (same_kind j k && w == v)

abbrev pub seat_in : {R : Type 0} → Call R → Option ℕ
seat_in (evidence x) = None
seat_in (verdict b x) = None
seat_in marker = None
seat_in (request v k t) = t

-- the seat that the first request for an ask named
unfoldable pub first_seat : {R : Type 0} → Ask → ℕ → List (Call R) → Option ℕ
first_seat k v [] = None
first_seat k v (c ∷ h) = cond (requested k v h) (first_seat k v h) (cond (is_request k v c) (seat_in c) None)

-- whom an ask may go to: anyone if some request for it named no seat, else the seat that the first one named
abbrev pub target : {R : Type 0} → Ask → ℕ → List (Call R) → Option ℕ
target k v h = cond (some (is_open_request k v) h) None (first_seat k v h)

module _ {R : Type 0} (viewed : R → ℕ) (sort : R → Kind) where
  abbrev pub finalizes : Call R → ℕ
  finalizes (evidence x) = cond (is_finalization (sort x)) (viewed x) 0
  finalizes (verdict b x) = 0
  finalizes marker = 0
  finalizes (request v k t) = 0

  abbrev pub raises : Call R → ℕ
  raises (evidence x) = cond (is_finalization (sort x)) (viewed x) 0
  raises (verdict b x) = cond b (viewed x) 0
  raises marker = 0
  raises (request v k t) = 0

  abbrev pub sees : Call R → ℕ
  sees (evidence x) = viewed x
  sees (verdict b x) = 0
  sees marker = 0
  sees (request v k t) = 0

  -- the highest finalization; of finalizations and passing verdicts; of evidence
  abbrev pub finalized : List (Call R) → ℕ
  finalized h = highest finalizes h

  abbrev pub floor : List (Call R) → ℕ
  floor h = highest raises h

  abbrev pub current : List (Call R) → ℕ
  current h = highest sees h

  -- there is evidence of a nullification, of a notarization, or a verdict at a view
  abbrev pub nullified : ℕ → List (Call R) → Bool
  nullified v h = some (by_evidence (λ x. is_nullification (sort x) && viewed x == v)) h

  abbrev pub notarized : ℕ → List (Call R) → Bool
  notarized v h = some (by_evidence (λ x. is_notarization (sort x) && viewed x == v)) h

  abbrev pub judged : ℕ → List (Call R) → Bool
  judged v h = some (by_verdict (λ b x. viewed x == v)) h

  abbrev pub passed : ℕ → List (Call R) → Bool
  passed v h = some (by_verdict (λ b x. b && viewed x == v)) h

  abbrev pub failed : ℕ → List (Call R) → Bool
  failed v h = some (by_verdict (λ b x. not b && viewed x == v)) h

  -- the records that count: the first finalization of the highest view, the first nullification at a view, and the
  -- notarization that the last verdict at a view passed
  abbrev pub if_evidence : Call R → Option R
  if_evidence (evidence x) = Some x
  if_evidence (verdict b x) = None
  if_evidence marker = None
  if_evidence (request v k t) = None

  unfoldable pub last_finalization : List (Call R) → Option R
  last_finalization [] = None
  last_finalization (c ∷ h) = cond (nat_lt (finalized h) (finalizes c)) (if_evidence c) (last_finalization h)

  abbrev pub if_nullifies : (R → Bool) → Call R → Option R
  if_nullifies p (evidence x) = cond (is_nullification (sort x) && p x) (Some x) None
  if_nullifies p (verdict b x) = None
  if_nullifies p marker = None
  if_nullifies p (request v k t) = None

  unfoldable pub first_nullification : ℕ → List (Call R) → Option R
  first_nullification v [] = None
  first_nullification v (c ∷ h) = or_else (first_nullification v h) (if_nullifies (λ x. viewed x == v) c)

  abbrev pub if_passes : Call R → Option R
  if_passes (evidence x) = None
  if_passes (verdict b x) = cond b (Some x) None
  if_passes marker = None
  if_passes (request v k t) = None

  unfoldable pub last_passed : ℕ → List (Call R) → Option R
  last_passed v [] = None
  last_passed v (c ∷ h) = cond (by_verdict (λ b x. viewed x == v) c) (if_passes c) (last_passed v h)

  module _ (L : ℕ) where
    -- some accepted nullification covers a view
    abbrev pub covered : ℕ → List (Call R) → Bool
    covered v h = some (by_evidence (λ x. is_nullification (sort x) && covering L (viewed x) v)) h

    -- of those that cover a view, the one of the highest view; of one view the first
    abbrev pub higher : Option R → Option R → Option R
    higher None before = before
    higher (Some x) None = Some x
    higher (Some x) (Some y) = cond (nat_lt (viewed y) (viewed x)) (Some x) (Some y)

    unfoldable pub highest_cover : ℕ → List (Call R) → Option R
    highest_cover v [] = None
    highest_cover v (c ∷ h) = higher (if_nullifies (λ x. covering L (viewed x) v) c) (highest_cover v h)

    -- nothing is left to ask for at a view
    abbrev pub settles : Ask → ℕ → List (Call R) → Bool
    settles ask.Nullification v h = nat_le v (finalized h) || covered v h
    settles ask.Notarization v h = nat_le v (finalized h) || (notarized v h || judged v h)

    -- an uncovered view above the floor and below the highest, which is the first above the floor or starts a term
    abbrev pub is_gap : ℕ → List (Call R) → Bool
    is_gap v h = (nat_lt (floor h) v && nat_lt v (current h)) && ((v == floor h + 1 || is_start L v) && not (covered v h))

    abbrev pub gaps : List (Call R) → List ℕ
    gaps h = filter (λ v. is_gap v h) (span (floor h + 1) (current h))

    -- the views that must be asked for: the gaps, and those above the floor that failed and are uncovered
    abbrev pub needed : ℕ → List (Call R) → Bool
    needed v h = is_gap v h || (failed v h && (nat_lt (floor h) v && not (covered v h)))

    -- what is served for a view, the first of these that there is: the highest finalization at or above it; what passed
    -- at it; the highest nullification that covers it; what passed at the floor, at or above it. What lies at or below
    -- the highest finalization, and nullifications whose term ends there, are no longer kept.
    abbrev pub passed_above : ℕ → List (Call R) → Option R
    passed_above v h = cond (nat_lt (finalized h) v) (last_passed v h) None

    unfoldable pub serves : ℕ → List (Call R) → Option R
    serves v h =
        or_else (cond (nat_le v (finalized h)) (last_finalization h) None)
        (or_else (passed_above v h)
        (or_else (cond (nat_lt (finalized h) (end L v)) (highest_cover v h) None)
        (cond (nat_le v (floor h)) (passed_above (floor h) h) None)))
