use Rattle.std.proofs.Common.{◌≡◌, ◌+◌, ◌-◌, ap, ◌∙◌, subst, arith}
use Rattle.std.specs.List.{copy_within}
use Rattle.table.proofs.Shifts.{move_none, move_up_more}
use Rattle.table.proofs.moves.move_up.Goals as goal

pub loop-i-init : goal.loop-i-init
loop-i-init g c = (c.requires.order, move_none c.args.rows.now c.args.to (c.args.to + 1))

pub loop-i-preserved : goal.loop-i-preserved
loop-i-preserved g c =
    let old = c.args.rows.now in
    let rows = c.loop-i.rows in
    let same : c.loop-i.i ≡ c.loop-i.i - 1 + 1 = omega arith in
    let moved = subst (λ k. rows ≡ copy_within old k c.args.to (k + 1)) same c.loop-i.invariant.1 in
    (omega arith, move_up_more old rows (c.loop-i.i - 1) c.args.to c.index-rows-i.result (omega arith) c.requires.high moved c.index-rows-i.is)

pub returns-clause-after : goal.returns-clause-after
returns-clause-after g c =
    let same : c.loop-i.i ≡ c.args.from = omega (arith, c.loop-i.invariant.0) in
    c.loop-i.invariant.1 ∙ ap (λ k. copy_within c.args.rows.now k c.args.to (k + 1)) same
