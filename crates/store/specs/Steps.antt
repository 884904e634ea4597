-- What each call makes of the values, and its effects, in their order. Terms have L views.
use Rattle.std.specs.Prelude.{ℕ, max, Bool, true, false, cond, not, ◌&&◌, ltb, List, [], ◌∷◌, ◌++◌, map, Some, filter, nat_lt}
use Rattle.effects.specs.declared.effect.Effect.{Effect}
use Rattle.effects.specs.declared.effect.Effect.TheVariants.{Fetch, Settled, Finalized, Raised}
use Rattle.effects.specs.declared.effect.FetchReason.TheVariants.{CertificationFailed}
use Rattle.effects.specs.declared.effect.Kind.TheVariants as ask
use Rattle.planning.specs.Gaps.{missing, plan_start, landing, pulled}
use Rattle.record.specs.declared.kind.Kind.{Kind}
use Rattle.record.specs.declared.kind.Kind.TheVariants.{Notarization, Nullification, Finalization}
use Rattle.views.specs.declared.Viewable as viewable
use Rattle.table.specs.declared.mark.Mark.{Mark}
use Rattle.table.specs.Rows.{holds, with_row, without, kept}
use Rattle.terms.specs.Terms.{end}
use Rattle.store.specs.Values.{Values, mark, mark_view, finalized, with_floor, with_current, with_cursor, with_replaying, with_finalization, with_nullifications, with_pending, with_certified, with_failed, is_certified, has_failed, is_covered, unplanned}

-- the effect of evidence or a verdict on a notarization
abbrev pub settles : ℕ → Effect
settles v = Settled ask.Notarization v v

-- the fetch of a view that failed
abbrev pub failed_fetch : ℕ → Effect
failed_fetch v = Fetch v v CertificationFailed

-- the effect, if it is due
abbrev pub if_due : Bool → Effect → List Effect
if_due b e = cond b (e ∷ []) []

-- the rows with this one, unless there is one of its view
abbrev pub first_kept : {R : Type 0} → (R → ℕ) → R → List R → List R
first_kept at h rs = cond (holds at (at h) rs) rs (with_row at h rs)

module _ {R : Type 0} {g : viewable.Ghosts R} (L : ℕ) where
  -- a nullification counts unless its term is finalized
  abbrev pub nullification_counts : ℕ → Values R g → Bool
  nullification_counts v s = nat_lt (finalized s) (end L v)

  -- the first nullification received at a view is kept
  unfoldable pub nullified : R → Values R g → Values R g
  nullified h s = with_nullifications (cond (nullification_counts (g.viewed h) s) (first_kept g.viewed h s.nullifications) s.nullifications) s

  unfoldable pub nullified_effects : ℕ → Values R g → List Effect
  nullified_effects v s = if_due (nullification_counts v s) (Settled ask.Nullification v (end L v))

  -- a notarization counts above the finalized view, unless it failed
  abbrev pub notarization_counts : ℕ → Values R g → Bool
  notarization_counts v s = nat_lt (finalized s) v && not (has_failed v s)

  -- and waits for its verdict, unless it passed
  abbrev pub awaiting : ℕ → Values R g → List Mark
  awaiting v s = cond (is_certified v s) s.pending (with_row mark_view (mark v) s.pending)

  unfoldable pub notarized : ℕ → Values R g → Values R g
  notarized v s = with_pending (cond (notarization_counts v s) (awaiting v s) s.pending) s

  unfoldable pub notarized_effects : ℕ → Values R g → List Effect
  notarized_effects v s = if_due (notarization_counts v s) (settles v)

  -- the highest finalization is kept
  unfoldable pub finalized_at : R → Values R g → Values R g
  finalized_at h s = with_finalization (cond (nat_lt (finalized s) (g.viewed h)) (Some h) s.finalization) s

  -- what the finalized view has ruled out goes: nullifications by their term's end, all else by its view
  unfoldable pub pruned : Values R g → Values R g
  pruned s =
      with_nullifications (kept g.viewed (λ u. ltb (finalized s) (end L u)) s.nullifications)
      (with_pending (kept mark_view (λ u. ltb (finalized s) u) s.pending)
      (with_certified (kept g.viewed (λ u. ltb (finalized s) u) s.certified)
      (with_failed (kept mark_view (λ u. ltb (finalized s) u) s.failed) s)))

  -- the floor rises to a higher view
  unfoldable pub raised : ℕ → Values R g → Values R g
  raised v s = with_floor (cond (nat_lt s.floor v) v s.floor) (with_cursor (cond (nat_lt s.floor v) (pulled L s.cursor v) s.cursor) s)

  unfoldable pub raised_effects : ℕ → Values R g → List Effect
  raised_effects v s = if_due (nat_lt s.floor v) (Raised v)

  unfoldable pub finalization_taken : R → Values R g → Values R g
  finalization_taken h s = raised (g.viewed h) (pruned (finalized_at h s))

  unfoldable pub finalization_effects : R → Values R g → List Effect
  finalization_effects h s = Finalized (finalized (finalized_at h s)) ∷ raised_effects (g.viewed h) s

  -- what evidence of each kind does
  abbrev pub taken : Kind → R → Values R g → Values R g
  taken Nullification h s = nullified h s
  taken Notarization h s = notarized (g.viewed h) s
  taken Finalization h s = finalization_taken h s

  abbrev pub taken_effects : Kind → R → Values R g → List Effect
  taken_effects Nullification h s = nullified_effects (g.viewed h) s
  taken_effects Notarization h s = notarized_effects (g.viewed h) s
  taken_effects Finalization h s = finalization_effects h s

  -- planning moves the cursor to the first anchor that is not below the highest view
  unfoldable pub planned : Values R g → Values R g
  planned s = with_cursor (cond s.replaying s.cursor (landing L (plan_start s.cursor s.floor) s.current)) s

  unfoldable pub planned_effects : ℕ → Values R g → List Effect
  planned_effects cause s = cond s.replaying [] (map (missing cause) (unplanned L s))

  -- the highest view of evidence
  abbrev pub seen : ℕ → Values R g → Values R g
  seen v s = with_current (max s.current v) s

  -- evidence
  unfoldable pub before_planning : Kind → R → Values R g → Values R g
  before_planning k h s = taken k h (seen (g.viewed h) s)

  abbrev pub updated : Kind → R → Values R g → Values R g
  updated k h s = planned (before_planning k h s)

  abbrev pub updated_effects : Kind → R → Values R g → List Effect
  updated_effects k h s = taken_effects k h (seen (g.viewed h) s) ++ planned_effects (g.viewed h) (before_planning k h s)

  -- a verdict takes the view from those that wait
  abbrev pub judged : ℕ → Values R g → Values R g
  judged v s = with_pending (without mark_view v s.pending) s

  -- a pass is kept above the finalized view, in the place of any before it
  unfoldable pub certified_at : R → Values R g → Values R g
  certified_at h s = with_certified (cond (nat_lt (finalized s) (g.viewed h)) (with_row g.viewed h s.certified) s.certified) s

  -- and raises the floor
  unfoldable pub passing : R → Values R g → Values R g
  passing h s = raised (g.viewed h) (certified_at h s)

  abbrev pub passed : R → Values R g → Values R g
  passed h s = passing h (judged (g.viewed h) s)

  -- a failed view is no longer served, and is marked above the finalized view
  unfoldable pub failed_at : ℕ → Values R g → Values R g
  failed_at v s = with_failed (cond (nat_lt (finalized s) v) (with_row mark_view (mark v) s.failed) s.failed) s

  unfoldable pub failing : ℕ → Values R g → Values R g
  failing v s = failed_at v (with_certified (without g.viewed v s.certified) s)

  -- whether a view above the floor is uncovered
  abbrev pub is_bare : Values R g → ℕ → Bool
  is_bare s v = nat_lt s.floor v && not (is_covered L s v)

  abbrev pub bare_effects : ℕ → Values R g → List Effect
  bare_effects v s = if_due (is_bare s v) (failed_fetch v)

  unfoldable pub failing_effects : ℕ → Values R g → List Effect
  failing_effects v s = cond s.replaying [] (bare_effects v s)

  -- a verdict
  abbrev pub certified : Bool → R → Values R g → Values R g
  certified true h s = planned (passed h s)
  certified false h s = failing (g.viewed h) (judged (g.viewed h) s)

  abbrev pub certified_effects : Bool → R → Values R g → List Effect
  certified_effects true h s = settles (g.viewed h) ∷ (raised_effects (g.viewed h) s ++ planned_effects (g.viewed h) (passed h s))
  certified_effects false h s = settles (g.viewed h) ∷ failing_effects (g.viewed h) s

  -- the marker: replay is over
  abbrev pub ended : Values R g → Values R g
  ended s = with_replaying false s

  -- the failed views that are above the floor and uncovered
  unfoldable pub failed_bare : Values R g → List ℕ
  failed_bare s = filter (is_bare s) (map mark_view s.failed)

  abbrev pub replayed : Values R g → Values R g
  replayed s = planned (ended s)

  abbrev pub replayed_effects : Values R g → List Effect
  replayed_effects s = planned_effects s.current (ended s) ++ map failed_fetch (failed_bare s)
