use Rattle.std.proofs.Common.{rules}
use Rattle.embedded.proofs.Begun.{begun_sound}
use Rattle.embedded.proofs.beginning.resolver_begin.Goals as goal

pub returns-clause-begun : goal.returns-clause-begun
returns-clause-begun c _ = begun_sound c.args.term_length c.args.epoch c.args.seats c.args.quorum c.args.member.now (search rules) (search rules)
