use Rattle.std.proofs.Common.{◌≡◌, ◌-◌}
use Rattle.std.specs.List.{copy_within}
use Rattle.table.proofs.moves.move_down.Given as goal

-- the rows below `i` have moved
abbrev pub invariant-loop-i : goal.invariant-loop-i
invariant-loop-i g l = l.rows ≡ copy_within l.initial.rows l.from l.i (l.from - l.by)
