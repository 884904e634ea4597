use Rattle.std.proofs.Common.{◌≤◌, ◌-◌, length}
use Rattle.recordings.specs.Cuts.{Plain}
use Rattle.recordings.proofs.cutting.before_command.Given as goal

-- the lines so far are no commands, and each has a byte
abbrev pub invariant-loop-at : goal.invariant-loop-at
invariant-loop-at l = Plain l.text l.at l.lines × (l.at ≤ length l.text) × (l.lines ≤ l.at)

abbrev pub decreases-loop-at : goal.decreases-loop-at
decreases-loop-at l = length l.text - l.at
