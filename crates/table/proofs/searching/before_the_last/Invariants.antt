use Rattle.std.proofs.Common.{◌-◌}
use Rattle.table.specs.Searching.{Between}
use Rattle.table.proofs.searching.before_the_last.Given as goal

abbrev pub invariant-loop-range : goal.invariant-loop-range
invariant-loop-range g l = Between g.R.Viewable.viewed (g.O.Order.keeping l.order) l.rows l.range.from l.range.size

abbrev pub decreases-loop-range : goal.decreases-loop-range
decreases-loop-range g l = l.range.size - 128
