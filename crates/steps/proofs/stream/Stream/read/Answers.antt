use Rattle.std.proofs.Common.{◌≡◌, ◌%◌, Err, length, subst, refl, sym, ap, ◌∙◌, arith, rules}
use Rattle.steps.specs.Format.{FailsAt, in_length, in_step}
use Rattle.steps.proofs.Reading.{rest_is}
use Rattle.steps.proofs.stream.Stream.read.Goals as goal

pub returns-then-steps-ne0 : goal.returns-then-steps-ne0
returns-then-steps-ne0 c =
    let same = ap (λ bs. length bs % 24) (rest_is c.args.bytes.now) in
    in_length c.in_ok-header.ensures.0 (omega (arith, same, c.if-steps-ne0.true)) refl

pub returns-in_err-test : goal.returns-in_err-test
returns-in_err-test c =
    let rest = rest_is c.args.bytes.now in
    let same : c.from_residual-in_err-test.result ≡ Err c.in_err-test.field-0.0 = search rules in
    rw same (in_step c.in_ok-header.ensures.0 (sym (ap (λ bs. length bs % 24) rest) ∙ c.if-steps-ne0.false) (subst (λ bs. FailsAt c.in_err-test.field-0.0 bs) rest c.in_err-test.ensures))

pub returns : goal.returns
returns c = record {
  tested = c.in_ok-header.ensures.0;
  heads = c.in_ok-header.ensures.1;
  follow = rest_is c.args.bytes.now;
  whole = c.if-steps-ne0.false;
}
