use Rattle.std.proofs.Common.{codes, rules}
use Rattle.std.proofs.lemmas.Slice.Eq.{text_from_reads}
use Rattle.script.proofs.command.CommandFromRefSliceU8.from.Goals as goal

pub returns-in-covers : goal.returns-in-covers
returns-in-covers c = rw (text_from_reads c.args.word.now (codes "covers") (search rules) (search rules)) (search rules)

pub returns-in-member : goal.returns-in-member
returns-in-member c = rw (text_from_reads c.args.word.now (codes "member") (search rules) (search rules)) (search rules)
