use Rattle.std.proofs.Common.{codes, rules}
use Rattle.std.proofs.lemmas.Slice.Eq.{text_from_reads}
use Rattle.orders.proofs.naming.ask_kind.Goals as goal

pub returns-in-nullification : goal.returns-in-nullification
returns-in-nullification c = rw (text_from_reads c.args.word.now (codes "nullification") (search rules) (search rules)) (search rules)

pub returns-in-notarization : goal.returns-in-notarization
returns-in-notarization c = rw (text_from_reads c.args.word.now (codes "notarization") (search rules) (search rules)) (search rules)
