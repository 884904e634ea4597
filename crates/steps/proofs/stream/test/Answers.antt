use Rattle.std.proofs.Common.{refl, sym, ap, ◌∙◌}
use Rattle.steps.specs.Format.{readable, step_of}
use Rattle.steps.proofs.Reading.{readable-more, slice_at}
use Rattle.steps.proofs.stream.test.Goals as goal

pub loop-i-init : goal.loop-i-init
unfolding readable
loop-i-init c = refl

pub loop-i-preserved : goal.loop-i-preserved
loop-i-preserved c = readable-more c.loop-i.i c.args.steps.now c.in_ok-read.field-0 c.loop-i.invariant (sym (c.in_ok-read.ensures ∙ ap (λ b. step_of b) (slice_at c.loop-i.i c.args.steps.now)))
