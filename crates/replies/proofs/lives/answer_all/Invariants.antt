use Rattle.std.proofs.Common.{◌+◌, is_some, cond}
use Rattle.replies.specs.Lives.{Lived}
use Rattle.replies.proofs.lives.answer_all.Given as goal

abbrev pub invariant-loop-next : goal.invariant-loop-next
invariant-loop-next g l = Lived g.A.Asker.given g.A.Asker.taken l.fn.asker l.next l.asker

-- a member is left to make, or there are fewer lines
abbrev pub decreases-loop-next : goal.decreases-loop-next
decreases-loop-next g l = g.A.Asker.left l.asker + cond (is_some l.next) 1 0
