use Rattle.std.proofs.Common.{refl, add-one, arith}
use Rattle.std.proofs.lemmas.Grind.{common_steps}
use Rattle.catching_up.specs.Standings.{unsettled}
use Rattle.catching_up.proofs.standing.unsettled.Goals as goal
use Rattle.catching_up.proofs.standing.unsettled.Goals.{then-not-is_settled, else-not-is_settled}

pub loop-i-init : goal.loop-i-init
unfolding unsettled
loop-i-init g c = (refl, omega arith)

pub loop-i-preserved : goal.loop-i-preserved
unfolding unsettled
loop-i-preserved g c = elim c.if-not-is_settled.branch [
  | then-not-is_settled w ↦ let e = c.is_settled.ensures in let i = c.loop-i.invariant.0 in let j = c.loop-i.invariant.1 in (grind (arith, common_steps, add-one), omega (arith, w.count-is, j))
  | else-not-is_settled w ↦ let e = c.is_settled.ensures in let i = c.loop-i.invariant.0 in let j = c.loop-i.invariant.1 in (grind (arith, common_steps, add-one), omega (arith, w.count-is, j))
]
