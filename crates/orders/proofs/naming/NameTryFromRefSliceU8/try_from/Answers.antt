use Rattle.std.proofs.Common.{codes, rules}
use Rattle.std.proofs.lemmas.Slice.Eq.{text_from_reads}
use Rattle.orders.proofs.naming.NameTryFromRefSliceU8.try_from.Goals as goal

pub returns-in-settled : goal.returns-in-settled
returns-in-settled c = rw (text_from_reads c.args.word.now (codes "settled") (search rules) (search rules)) (search rules)

pub returns-in-produce : goal.returns-in-produce
returns-in-produce c = rw (text_from_reads c.args.word.now (codes "produce") (search rules) (search rules)) (search rules)

pub returns-in-deliver : goal.returns-in-deliver
returns-in-deliver c = rw (text_from_reads c.args.word.now (codes "deliver") (search rules) (search rules)) (search rules)
