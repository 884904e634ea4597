use Rattle.std.proofs.Common.{◌<◌, length, true, false, subst, arith}
use Rattle.std.proofs.lemmas.Grind.{common_steps}
use Rattle.table.specs.Searching.{Between}
use Rattle.table.proofs.Halving.{parted}
use Rattle.table.proofs.Placing.{view_of}
use Rattle.table.proofs.searching.Range.parted.Goals as goal

pub returns-then-keeps : goal.returns-then-keeps
returns-then-keeps g c =
    let at = g.R.Viewable.viewed in
    let p = g.O.Order.keeping c.args.order.now in
    let rows = c.args.rows.now in
    let from = c.args.self.from in
    let inside : from < length rows = omega (arith, c.requires.between.some, c.requires.between.within) in
    let seen = view_of at rows from c.index-rows-self.result inside in
    let single = subst (λ n. Between at p rows from n) c.requires.one c.requires.between in
    parted at p (g.met.O.Order.rising c.args.order.now) rows c.requires.rises from true (grind (arith, common_steps)) single

pub returns-else-keeps : goal.returns-else-keeps
returns-else-keeps g c =
    let at = g.R.Viewable.viewed in
    let p = g.O.Order.keeping c.args.order.now in
    let rows = c.args.rows.now in
    let from = c.args.self.from in
    let inside : from < length rows = omega (arith, c.requires.between.some, c.requires.between.within) in
    let seen = view_of at rows from c.index-rows-self.result inside in
    let single = subst (λ n. Between at p rows from n) c.requires.one c.requires.between in
    parted at p (g.met.O.Order.rising c.args.order.now) rows c.requires.rises from false (grind (arith, common_steps)) single
