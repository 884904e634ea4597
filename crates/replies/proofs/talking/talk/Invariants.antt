use Rattle.std.proofs.Common.{◌≤◌}
use Rattle.replies.specs.Talks.{Rounds}
use Rattle.replies.proofs.talking.talk.Given as goal

-- the lines so far were answered, and none of them makes a member
abbrev pub invariant-loop-line : goal.invariant-loop-line
invariant-loop-line g l =
    Rounds g.A.Asker.given g.A.Asker.taken g.T.Answerer.answers l.fn.asker l.fn.answerer l.asker l.answerer × (g.A.Asker.left l.asker ≤ g.A.Asker.left l.fn.asker)

abbrev pub decreases-loop-line : goal.decreases-loop-line
decreases-loop-line g l = g.A.Asker.left l.asker
