use Rattle.std.proofs.Common.{◌≡◌, true}
use Rattle.steps.specs.Format.{readable}
use Rattle.steps.proofs.stream.test.Given as goal

-- each step before this one can be read
abbrev pub invariant-loop-i : goal.invariant-loop-i
invariant-loop-i l = readable l.i l.steps ≡ true
