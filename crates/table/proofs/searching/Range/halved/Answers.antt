use Rattle.std.proofs.Common.{◌+◌, ◌/◌, ◌<◌, length, true, false, arith}
use Rattle.std.proofs.lemmas.Grind.{common_steps}
use Rattle.table.proofs.Halving.{halved}
use Rattle.table.proofs.Placing.{view_of}
use Rattle.table.proofs.searching.Range.halved.Goals as goal
use Rattle.table.proofs.searching.Range.halved.Goals.{then-keeps, else-keeps}

pub returns-clause-between : goal.returns-clause-between
returns-clause-between g c =
    let at = g.R.Viewable.viewed in
    let p = g.O.Order.keeping c.args.order.now in
    let rows = c.args.rows.now in
    let middle = c.args.self.from + c.args.self.size / 2 in
    let inside : middle < length rows = omega (arith, c.requires.between.some, c.requires.between.within) in
    let seen = view_of at rows middle c.index-rows-middle.result inside in
    let half = halved at p (g.met.O.Order.rising c.args.order.now) rows c.requires.rises c.args.self.from c.args.self.size in
    elim c.if-keeps.branch [
      | then-keeps w ↦ rw w.from-is (half true (grind (arith, common_steps)) c.requires.between)
      | else-keeps w ↦ rw w.from-is (half false (grind (arith, common_steps)) c.requires.between)
    ]
