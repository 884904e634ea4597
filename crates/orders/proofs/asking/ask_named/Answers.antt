use Rattle.std.proofs.Common.{codes, rules}
use Rattle.std.proofs.lemmas.Slice.Eq.{text_from_reads}
use Rattle.orders.proofs.asking.ask_named.Goals as goal

pub returns-in-background : goal.returns-in-background
returns-in-background c = rw (text_from_reads c.args.word.now (codes "background") (search rules) (search rules)) (search rules)

pub returns-in-nullification : goal.returns-in-nullification
returns-in-nullification c = rw (text_from_reads c.args.word.now (codes "nullification") (search rules) (search rules)) (search rules)

pub returns-in-notarization : goal.returns-in-notarization
returns-in-notarization c = rw (text_from_reads c.args.word.now (codes "notarization") (search rules) (search rules)) (search rules)
