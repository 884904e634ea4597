use Rattle.std.proofs.Common.{arith}
use Rattle.replies.specs.Talks.{Round, none, more}
use Rattle.replies.proofs.Makers.{makes_none}
use Rattle.replies.proofs.talking.talk.Given.{Over}
use Rattle.replies.proofs.talking.talk.Goals as goal
use Rattle.replies.proofs.talking.talk.Goals.{In_ok-turn}

-- the line that was given, answered and taken
round : (g : Over) (c : In_ok-turn g) → Round g.A.Asker.given g.A.Asker.taken g.T.Answerer.answers c.loop-line.asker c.loop-line.answerer c.in_ok-turn.turn c.take.new.self c.take.new.answerer
round g c = record {
  line = c.in-Some.line;
  text = c.in-Some.text;
  between = c.next.new.self;
  answer = c.in_ok-turn.ensures.taken.answer;
  gave = c.in-Some.ensures.given;
  answered = c.in_ok-turn.ensures.taken.answered;
  took = c.in_ok-turn.ensures.taken.took;
}

pub loop-line-init : goal.loop-line-init
loop-line-init g c = (none, omega arith)

pub loop-line-preserved : goal.loop-line-preserved
loop-line-preserved g c = (more c.in_ok-turn.turn c.loop-line.invariant.0 (makes_none _ c.in_default-turn.not-Member) (round g (goal.at.loop-line-preserved g c).In_ok-turn), omega (arith, c.loop-line.invariant.1, c.in-Some.ensures.left, c.in_ok-turn.ensures.left))

pub returns-in-Member-clause-talk : goal.returns-in-Member-clause-talk
returns-in-Member-clause-talk g c = record {
  before = c.loop-line.asker;
  answerer = c.loop-line.answerer;
  rounds = c.loop-line.invariant.0;
  last = rw c.in-Member.is at (round g (goal.at.returns-in-Member-clause-talk g c).In_ok-turn);
}
