use Rattle.std.proofs.Common.{ℕ, ◌<◌, slice_index}
use Rattle.table.specs.Rows.{views}
use Rattle.table.proofs.ascending.rises.Given as goal

abbrev pub invariant-loop-i : goal.invariant-loop-i
invariant-loop-i g l = (a b : ℕ) → a < b → b < l.i → slice_index (views g.R.Viewable.viewed l.rows) a < slice_index (views g.R.Viewable.viewed l.rows) b
