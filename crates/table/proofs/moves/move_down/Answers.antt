use Rattle.std.proofs.Common.{◌≡◌, ◌-◌, ap, ◌∙◌, arith}
use Rattle.std.specs.List.{copy_within}
use Rattle.table.proofs.Shifts.{move_none, move_onto_itself, move_down_more}
use Rattle.table.proofs.moves.move_down.Goals as goal

pub loop-i-init : goal.loop-i-init
loop-i-init g c = move_none c.args.rows.now c.args.from (c.args.from - c.args.by)

pub loop-i-preserved : goal.loop-i-preserved
loop-i-preserved g c = move_down_more c.args.rows.now c.loop-i.rows c.args.from c.loop-i.i c.args.by c.index-rows-i.result c.requires.low (omega arith) (omega (arith, c.requires.high)) c.loop-i.invariant c.index-rows-i.is

pub returns-after-loop-i-clause-after : goal.returns-after-loop-i-clause-after
returns-after-loop-i-clause-after g c =
    let same : c.loop-i.i ≡ c.args.to = omega arith in
    c.loop-i.invariant ∙ ap (λ k. copy_within c.args.rows.now c.args.from k (c.args.from - c.args.by)) same

-- nothing moves by no place
pub returns-else-by-ne0-clause-after : goal.returns-else-by-ne0-clause-after
returns-else-by-ne0-clause-after g c =
    let same : c.args.from ≡ c.args.from - c.args.by = omega arith in
    move_onto_itself c.args.rows.now c.args.from c.args.to c.requires.order ∙ ap (copy_within c.args.rows.now c.args.from c.args.to) same
