-- Whether a call needs a new row, and whether its table has room for it: each holds at most 128.
use Rattle.std.specs.Prelude.{◌≡◌, ℕ, ◌<◌, Bool, true, false, not, ◌&&◌, length, nat_lt}
use Rattle.views.specs.declared.Viewable as viewable
use Rattle.record.specs.declared.kind.Kind.{Kind}
use Rattle.record.specs.declared.kind.Kind.TheVariants.{Notarization, Nullification, Finalization}
use Rattle.store.specs.Values.{Values, finalized, is_nullified, is_pending, is_certified, has_failed}
use Rattle.store.specs.Steps.{nullification_counts, notarization_counts}

module _ {R : Type 0} {g : viewable.Ghosts R} (L : ℕ) where
  -- evidence of a kind needs a new row
  abbrev pub row_due : Kind → ℕ → Values R g → Bool
  row_due Nullification v s = nullification_counts L v s && not (is_nullified v s)
  row_due Notarization v s = notarization_counts L v s && (not (is_certified v s) && not (is_pending v s))
  row_due Finalization v s = false

  -- how many its table holds
  abbrev pub rows_held : Kind → Values R g → ℕ
  rows_held Nullification s = length s.nullifications
  rows_held Notarization s = length s.pending
  rows_held Finalization s = 0

  abbrev pub Room : Kind → ℕ → Values R g → Type 0
  Room k v s = row_due k v s ≡ true → rows_held k s < 128

  -- a verdict needs a new row: of those that passed, or of those that failed
  abbrev pub verdict_due : Bool → ℕ → Values R g → Bool
  verdict_due true v s = nat_lt (finalized s) v && not (is_certified v s)
  verdict_due false v s = nat_lt (finalized s) v && not (has_failed v s)

  abbrev pub verdict_rows : Bool → Values R g → ℕ
  verdict_rows true s = length s.certified
  verdict_rows false s = length s.failed

  abbrev pub VerdictRoom : Bool → ℕ → Values R g → Type 0
  VerdictRoom b v s = verdict_due b v s ≡ true → verdict_rows b s < 128
