use Rattle.std.proofs.Common.{rules}
use Rattle.peer_rounds.proofs.putting.bring.Goals as goal

pub returns-clause-came : goal.returns-clause-came
returns-clause-came g c = (
  search rules,
  record {
    between = c.deliver-delivered.new.member;
    delivered = c.deliver-delivered.ensures.carried;
    passed = rw c.is_new-new.ensures at c.pass_if-passed.ensures.passed;
  },
)
