use Rattle.std.proofs.Common.{◌≡◌, ◌<◌, ◌≤◌, length, MatchOption, slice_index_or, rules}
use Rattle.table.specs.Tables.{entries}
use Rattle.table.proofs.Laws.{found_itself}
use Rattle.table.proofs.lent.Table.nth.Goals as goal

pub returns-clause-found_itself : goal.returns-clause-found_itself
returns-clause-found_itself g c =
    let rs = entries c.args.self.now in
    let is : MatchOption c.copied.result (length rs ≤ c.args.i) (λ x. (c.args.i < length rs) × (x ≡ slice_index_or rs c.args.i x)) = search rules in
    found_itself g.R.Viewable.viewed rs c.args.i c.copied.result c.args.self.now.rises is
