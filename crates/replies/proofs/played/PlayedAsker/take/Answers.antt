use Rattle.std.proofs.Common.{rules, refl}
use Rattle.replies.proofs.played.PlayedAsker.take.Goals as goal

pub returns-clause-taken : goal.returns-clause-taken
returns-clause-taken g c = record {
  answer = c.in_ok-turn.ensures.answer;
  answered = c.in_ok-turn.ensures.told;
  took = (refl, c.in_ok-turn.ensures.written, search rules);
}
