use Rattle.std.proofs.Common.{◌≡◌, ◌-◌, arith}
use Rattle.std.proofs.lemmas.Grind.{common_steps}
use Rattle.catching_up.specs.Standings.{unsettled}
use Rattle.catching_up.proofs.standing.bare.Goals as goal

pub returns-then-current-floor : goal.returns-then-current-floor
unfolding unsettled
returns-then-current-floor g c =
    let e = c.current_view-current.ensures in
    let f = c.floor-floor.ensures in
    let h = c.if-current-floor.true in
    let none : c.current_view-current.result - c.floor-floor.result - 1 ≡ 0 = omega arith in
    grind (arith, common_steps)
