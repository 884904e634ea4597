use Rattle.std.proofs.Common.{◌≡◌, ◌++◌, map, take, drop}
use Rattle.row_board.specs.Rows.{closed}
use Rattle.row_board.proofs.asking.close_all.Given as goal

abbrev pub invariant-loop-i : goal.invariant-loop-i
invariant-loop-i l = l.rows ≡ map (closed l.retire) (take l.i l.fn.rows) ++ drop l.i l.fn.rows
