use Rattle.std.proofs.Common.{◌≡◌, ◌≤◌, ◌+◌, true, subst, arith}
use Rattle.std.proofs.lemmas.Grind.{common_steps}
use Rattle.recordings.specs.Cuts.{Plain, no_line, line_more, line_end, is_plain}
use Rattle.recordings.proofs.cutting.before_command.Goals as goal

pub loop-at-init : goal.loop-at-init
loop-at-init c = (no_line, omega arith, omega arith)

pub loop-at-preserved : goal.loop-at-preserved
loop-at-preserved c =
    let bs = c.args.text.now in
    let i = c.loop-at.at in
    let n = c.loop-at.lines in
    let plain : is_plain bs i ≡ true = cc in
    let end : line_end bs i ≡ c.min-at.result = grind (arith, common_steps) in
    let further : i + 1 ≤ c.min-at.result = grind (arith, common_steps) in
    (subst (λ j. Plain bs j (n + 1)) end (line_more i n c.loop-at.invariant.0 plain), grind (arith, common_steps), omega arith)
