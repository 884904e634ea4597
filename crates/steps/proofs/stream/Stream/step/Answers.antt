use Rattle.std.proofs.Common.{◌<◌, is_ok, ap, ◌∙◌, subst}
use Rattle.steps.specs.Format.{step_of}
use Rattle.steps.proofs.Reading.{readable-at, slice_at}
use Rattle.steps.proofs.stream.Stream.step.Goals as goal

pub unwrap-requires : goal.unwrap-requires
unwrap-requires c =
    let bs = c.args.self.now.steps.now in
    let below = subst (λ n. c.args.i < n) c.len.ensures c.if-i-len.false in
    ap (λ r. is_ok r) (c.read.ensures ∙ ap (λ b. step_of b) (slice_at c.args.i bs)) ∙ readable-at _ c.args.i bs below c.args.self.now.readable
