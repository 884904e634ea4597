-- What the next call answers, by the calls accepted before it. Terms have L views.
use Rattle.std.specs.Prelude.{ℕ, ◌+◌, ◌^◌, Bool, true, false, cond, not, ◌&&◌, List, [], ◌∷◌, ◌++◌, length, is_some, filter, Ok, Err, Result, eqb, nat_le, nat_lt}
use Rattle.std.specs.Set.{distinct_count}
use Rattle.board.specs.Asks.{kind_of, same_kind}
use Rattle.board.specs.declared.ask.Ask.{Ask as Asked}
use Rattle.board.specs.declared.fault.Fault.TheVariants.{TooManyAsks}
use Rattle.effects.specs.declared.effect.Kind.{Kind as Ask}
use Rattle.effects.specs.declared.effect.Kind.TheVariants as ask
use Rattle.record.specs.declared.fault.Fault.{Fault as Misread}
use Rattle.record.specs.declared.kind.Kind.{Kind}
use Rattle.record.specs.declared.kind.Kind.TheVariants.{Notarization, Nullification, Finalization}
use Rattle.resolver.specs.Deliveries.{outcome_of, untaken, with_taken, if_valid, if_parsed, if_taken}
use Rattle.resolver.specs.declared.fault.Fault.{Fault}
use Rattle.resolver.specs.declared.fault.Fault.TheVariants.{Board}
use Rattle.resolver.specs.declared.outcome.Delivered.{Delivered}
use Rattle.resolver.specs.declared.outcome.Outcome.TheVariants.{Ignored, Invalid}
use Rattle.state.specs.Answers.{Answer, is_notarization, refused_if}
use Rattle.state.specs.declared.fault.Fault.TheVariants.{NotANotarization, ViewTooHigh, TableFull, TooManyGaps}
use Rattle.terms.specs.Terms.{end}
use Rattle.history.specs.Calls.{Call, evidence, verdict, marker, request, marked, requested, finalized, current, nullified, notarized, judged, failed, last_passed, settles, gaps}

-- the views of accepted evidence and verdicts, and those of accepted requests for a kind
abbrev pub view_in : {R : Type 0} → (R → ℕ) → Call R → List ℕ
view_in viewed (evidence x) = viewed x ∷ []
view_in viewed (verdict b x) = viewed x ∷ []
view_in viewed marker = []
view_in viewed (request v k t) = []

abbrev pub request_in : {R : Type 0} → Ask → Call R → List ℕ
request_in k (evidence x) = []
request_in k (verdict b x) = []
request_in k marker = []
request_in k (request v j t) = cond (same_kind j k) (v ∷ []) []

unfoldable pub all_in : {R : Type 0} → (Call R → List ℕ) → List (Call R) → List ℕ
all_in f [] = []
all_in f (c ∷ h) = f c ++ all_in f h

-- how many of the views pass a test
abbrev pub how_many : (ℕ → Bool) → List ℕ → ℕ
how_many p vs = distinct_count eqb (filter p vs)

module _ {R : Type 0} (viewed : R → ℕ) (sort : R → Kind) (L : ℕ) where
  -- a new row is due for evidence, and so many are kept of its kind
  abbrev pub row_due : Kind → ℕ → List (Call R) → Bool
  row_due Nullification v h = nat_lt (finalized viewed sort h) (end L v) && not (nullified viewed sort v h)
  row_due Notarization v h = not (settles viewed sort L ask.Notarization v h)
  row_due Finalization v h = false

  abbrev pub rows : Kind → List (Call R) → ℕ
  rows Nullification h = how_many (λ v. nat_lt (finalized viewed sort h) (end L v) && nullified viewed sort v h) (all_in (view_in viewed) h)
  rows Notarization h = how_many (λ v. nat_lt (finalized viewed sort h) v && (notarized viewed sort v h && not (judged viewed sort v h))) (all_in (view_in viewed) h)
  rows Finalization h = 0

  -- the same for a verdict
  abbrev pub verdict_due : Bool → ℕ → List (Call R) → Bool
  verdict_due true v h = nat_lt (finalized viewed sort h) v && not (is_some (last_passed viewed sort v h))
  verdict_due false v h = nat_lt (finalized viewed sort h) v && not (failed viewed sort v h)

  abbrev pub verdict_rows : Bool → List (Call R) → ℕ
  verdict_rows true h = how_many (λ v. nat_lt (finalized viewed sort h) v && is_some (last_passed viewed sort v h)) (all_in (view_in viewed) h)
  verdict_rows false h = how_many (λ v. nat_lt (finalized viewed sort h) v && failed viewed sort v h) (all_in (view_in viewed) h)

  -- evidence that is a record: the gaps are those that would stand after it
  abbrev pub evidence_rule : R → List (Call R) → Answer
  evidence_rule x h =
      refused_if (nat_lt (2 ^ 62) (viewed x)) ViewTooHigh
      (refused_if (row_due (sort x) (viewed x) h && nat_le 128 (rows (sort x) h)) TableFull
      (refused_if (marked h && (nat_lt (current viewed sort h) (viewed x) && nat_lt 128 (length (gaps viewed sort L (evidence x ∷ h))))) TooManyGaps (Ok tt)))

  abbrev pub verdict_rule : Bool → R → List (Call R) → Answer
  verdict_rule b x h =
      refused_if (not (is_notarization (sort x))) NotANotarization
      (refused_if (nat_lt (2 ^ 62) (viewed x)) ViewTooHigh
      (refused_if (verdict_due b (viewed x) h && nat_le 128 (verdict_rows b h)) TableFull (Ok tt)))

  abbrev pub marker_rule : List (Call R) → Answer
  marker_rule h = refused_if (nat_lt 128 (length (gaps viewed sort L h))) TooManyGaps (Ok tt)

  -- how many requests of a kind are still open, and whether one is
  abbrev pub open_requests : Ask → List (Call R) → ℕ
  open_requests k h = how_many (λ v. not (settles viewed sort L k v h)) (all_in (request_in k) h)

  abbrev pub stays_open : Ask → ℕ → List (Call R) → Bool
  stays_open k v h = requested k v h && not (settles viewed sort L k v h)

  abbrev pub request_rule : ℕ → ℕ → Ask → List (Call R) → Result Bool Fault
  request_rule p v k h =
      cond (nat_lt v p && not (settles viewed sort L k v h))
      (cond (not (stays_open k v h) && nat_le 64 (open_requests ask.Nullification h + open_requests ask.Notarization h)) (Err (Board TooManyAsks)) (Ok true))
      (Ok false)

  -- how many asks of a delivery are settled
  abbrev pub settled_asks : ℕ → List Asked → List (Call R) → ℕ
  settled_asks v qs h = length (filter (λ a. settles viewed sort L (kind_of a) v h) qs)

  -- a notarization that failed has nothing to add
  abbrev pub obsolete : R → List (Call R) → Bool
  obsolete x h = is_notarization (sort x) && (nat_lt (finalized viewed sort h) (viewed x) && failed viewed sort (viewed x) h)

  -- a delivered record that passed
  abbrev pub judged_rule : List Asked → ℕ → R → List (Call R) → Result Delivered Fault
  judged_rule qs v x h =
      cond (obsolete x h)
      (Ok (untaken (outcome_of (length qs) (settled_asks v qs h) (settled_asks v qs h))))
      (if_taken (evidence_rule x h) (with_taken (outcome_of (length qs) (settled_asks v qs h) (settled_asks v qs (evidence x ∷ h)))))

  abbrev pub delivery_rule : (R → Bool) → List Asked → ℕ → Result R Misread → List (Call R) → Result Delivered Fault
  delivery_rule valid qs v read h =
      cond (settles viewed sort L ask.Nullification v h && settles viewed sort L ask.Notarization v h)
      (Ok (untaken Ignored))
      (if_parsed (if_valid valid read) (Ok (untaken Invalid)) (λ x. judged_rule qs v x h))
