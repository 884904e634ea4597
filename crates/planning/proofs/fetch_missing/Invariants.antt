use Rattle.std.proofs.Common.{◌≡◌, ◌++◌, map}
use Rattle.effects.specs.Lists.{Filled}
use Rattle.planning.specs.Gaps.{missing}
use Rattle.planning.specs.Left.{left}
use Rattle.planning.proofs.fetch_missing.Given as goal

-- the gaps that were gone through are fetched, and the others are left
abbrev pub invariant-loop-gap : goal.invariant-loop-gap
invariant-loop-gap g l =
    Filled (map (missing l.cause) l.yielded) l.initial.effects l.effects
    × (l.yielded ++ left l.gap-iterator ≡ left l.initial.gap-iterator)
