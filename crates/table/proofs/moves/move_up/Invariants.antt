use Rattle.std.proofs.Common.{◌≡◌, ◌+◌, ◌≤◌}
use Rattle.std.specs.List.{copy_within}
use Rattle.table.proofs.moves.move_up.Given as goal

-- the rows from `i` on have moved
abbrev pub invariant-loop-i : goal.invariant-loop-i
invariant-loop-i g l = (l.from ≤ l.i) × (l.rows ≡ copy_within l.initial.rows l.i l.to (l.i + 1))
