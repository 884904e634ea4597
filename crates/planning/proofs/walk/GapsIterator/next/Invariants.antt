use Rattle.std.proofs.Common.{◌-◌, ◌≡◌}
use Rattle.planning.specs.Left.{left}
use Rattle.planning.proofs.walk.GapsIterator.next.Given as goal

-- only covered anchors are passed
abbrev pub invariant-loop-self : goal.invariant-loop-self
invariant-loop-self g l = left l.self ≡ left l.initial.self

abbrev pub decreases-loop-self : goal.decreases-loop-self
decreases-loop-self g l = l.self.current - l.self.anchor
