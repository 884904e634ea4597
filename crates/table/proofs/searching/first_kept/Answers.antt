use Rattle.std.proofs.Common.{◌-◌, ◌<◌, length, sym, arith}
use Rattle.std.proofs.lemmas.Bool.{ltb-true}
use Rattle.std.proofs.lemmas.Grind.{common_steps}
use Rattle.table.proofs.Halving.{none_kept}
use Rattle.table.proofs.Placing.{view_of}
use Rattle.table.proofs.searching.first_kept.Goals as goal

pub returns-then-not-keeps : goal.returns-then-not-keeps
returns-then-not-keeps g c =
    let at = g.R.Viewable.viewed in
    let p = g.O.Order.keeping c.args.order.now in
    let rows = c.args.rows.now in
    let some : 0 < length rows = ltb-true 0 (length rows) (sym c.in-Some.ensures.item.0) in
    let seen = view_of at rows (length rows - 1) c.in-Some.last.now (omega (arith, some)) in
    none_kept at p (g.met.O.Order.rising c.args.order.now) rows c.requires some (grind (arith, common_steps))
