-- Where the place that parts rows may still lie.
use Rattle.std.specs.Prelude.{◌≡◌, ℕ, ◌+◌, ◌<◌, ◌≤◌, Bool, true, false, List, length, slice_index}
use Rattle.table.specs.Rows.{views}

-- the rows before these are not kept, those behind them are
pub record Between {R : Type 0} (at : R → ℕ) (p : ℕ → Bool) (rs : List R) (from size : ℕ) : Type 0 where
  pub some : 0 < size
  pub within : from + size ≤ length rs
  pub before : (k : ℕ) → k < from → p (slice_index (views at rs) k) ≡ false
  pub after : (k : ℕ) → from + size ≤ k → k < length rs → p (slice_index (views at rs) k) ≡ true
