use Rattle.std.proofs.Common.{codes, rules}
use Rattle.std.proofs.lemmas.Slice.Eq.{text_from_reads}
use Rattle.orders.proofs.naming.CallNameTryFromRefSliceU8.try_from.Goals as goal

pub returns-in-updated : goal.returns-in-updated
returns-in-updated c = rw (text_from_reads c.args.word.now (codes "updated") (search rules) (search rules)) (search rules)

pub returns-in-certified : goal.returns-in-certified
returns-in-certified c = rw (text_from_reads c.args.word.now (codes "certified") (search rules) (search rules)) (search rules)

pub returns-in-replayed : goal.returns-in-replayed
returns-in-replayed c = rw (text_from_reads c.args.word.now (codes "replayed") (search rules) (search rules)) (search rules)

pub returns-in-resolve : goal.returns-in-resolve
returns-in-resolve c = rw (text_from_reads c.args.word.now (codes "resolve") (search rules) (search rules)) (search rules)
