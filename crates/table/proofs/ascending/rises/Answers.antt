use Rattle.std.proofs.Common.{rules}
use Rattle.std.proofs.lemmas.Bool.{false≢true}
use Rattle.table.proofs.Adjacent.{one_more, no_more}
use Rattle.table.proofs.ascending.rises.Goals as goal

pub returns-then-view : goal.returns-then-view
returns-then-view g c =
    let low = no_more g.R.Viewable.viewed c.args.rows.now c.loop-i.i c.index-rows-i.result c.index-rows-i-in-loop-i.result (search rules) (search rules) c.index-rows-i.is c.index-rows-i-in-loop-i.is (search rules) in
    (λ e. absurd (false≢true e), λ a. absurd (low a))

pub loop-i-preserved : goal.loop-i-preserved
loop-i-preserved g c =
    one_more g.R.Viewable.viewed c.args.rows.now c.loop-i.i c.index-rows-i.result c.index-rows-i-in-loop-i.result (search rules) (search rules) c.index-rows-i.is c.index-rows-i-in-loop-i.is (search rules) c.loop-i.invariant
