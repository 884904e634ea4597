use Rattle.std.proofs.Common.{sym, ◌∙◌}
use Rattle.std.proofs.lemmas.Bool.{cond-true, cond-false}
use Rattle.words.specs.Numerals.{decimal_of}
use Rattle.words.proofs.Numerals.{read_as}
use Rattle.words.proofs.digits.decimal.Goals as goal

pub returns-then-not-plain : goal.returns-then-not-plain
unfolding decimal_of
returns-then-not-plain c = sym (cond-false _ _ _ (sym c.if-not-plain.ensures))

pub returns : goal.returns
unfolding decimal_of
returns c = c.ok_or.ensures.value ∙ read_as _ _ _ c.value.ensures ∙ sym (cond-true _ _ _ (sym c.if-not-plain.ensures))
