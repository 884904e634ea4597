use Rattle.std.proofs.Common.{◌≡◌, ◌+◌, ◌-◌, ◌*◌, get_or, drop, sym, ap, ◌∙◌, arith}
use Rattle.std.proofs.lemmas.List.{at_drop_all}
use Rattle.words.specs.Numerals.{read_on}
use Rattle.words.proofs.Numerals.{read_on_more, fits_so, too_large}
use Rattle.words.proofs.digits.value.Goals as goal

pub returns-in_err-checked_mul : goal.returns-in_err-checked_mul
returns-in_err-checked_mul c =
    let next = c.loop-c.n * 10 + (get_or c.args.word.now c.loop-c.c-index 0 - 48) in
    let more = read_on_more c.args.word.now c.loop-c.n c.loop-c.c-index _ c.loop-c-test.true c.loop-c.invariant.1 in
    c.from_residual.ensures ∙ sym (too_large next _ (drop (c.loop-c.c-index + 1) c.args.word.now) (λ h. c.in_err-checked_mul.ensures (omega arith)) more)

pub returns-in_err-n : goal.returns-in_err-n
returns-in_err-n c =
    let next = c.loop-c.n * 10 + (get_or c.args.word.now c.loop-c.c-index 0 - 48) in
    let more = read_on_more c.args.word.now c.loop-c.n c.loop-c.c-index _ c.loop-c-test.true c.loop-c.invariant.1 in
    let mul = c.in_ok-checked_mul.ensures in
    let digit = c.saturating_sub.ensures in
    let wide = c.from.ensures in
    c.from_residual-in_err-n.ensures ∙ sym (too_large next _ (drop (c.loop-c.c-index + 1) c.args.word.now) (λ h. c.in_err-n.ensures (omega arith)) more)

pub loop-c-preserved : goal.loop-c-preserved
loop-c-preserved c =
    let more = read_on_more c.args.word.now c.loop-c.n c.loop-c.c-index _ c.loop-c-test.true c.loop-c.invariant.1 in
    let mul = c.in_ok-checked_mul.ensures in
    let add = c.in_ok-n.ensures in
    let digit = c.saturating_sub.ensures in
    let wide = c.from.ensures in
    let same : c.in_ok-n.n ≡ c.loop-c.n * 10 + (get_or c.args.word.now c.loop-c.c-index 0 - 48) = omega arith in
    (omega arith, ap (λ n. read_on n (drop (c.loop-c.c-index + 1) c.args.word.now)) same ∙ more)

pub returns : goal.returns
returns c =
    let done = at_drop_all (read_on c.loop-c.n) c.args.word.now c.loop-c.c-index c.loop-c-test.false in
    fits_so c.loop-c.n _ c.loop-c.invariant.0 (sym done ∙ c.loop-c.invariant.1)
