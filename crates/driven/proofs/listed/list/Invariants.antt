use Rattle.std.proofs.Common.{◌≡◌, ◌++◌, map, length, take, drop}
use Rattle.driven.specs.Lists.{row_of}
use Rattle.driven.proofs.listed.list.Given as goal

-- the first rows are written
abbrev pub invariant-loop-i : goal.invariant-loop-i
invariant-loop-i l = (l.listed.count ≡ length l.effects) × (l.listed.effects ≡ map row_of (take l.i l.effects) ++ drop l.i l.initial.listed.effects)
