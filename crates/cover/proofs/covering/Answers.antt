use Rattle.std.proofs.Common.{◌≡◌, sym, subst, rules}
use Rattle.table.specs.Tables.{entries}
use Rattle.terms.specs.Terms.{views}
use Rattle.terms.proofs.Laws.{to_the_end, covers_between}
use Rattle.cover.specs.Covers.{if_covering, cover, HighestCover}
use Rattle.cover.proofs.Covers.{highest_covers, by_some_row, covered_if_found}
use Rattle.cover.proofs.covering.Goals as goal

pub returns : goal.returns
unfolding cover
returns g c =
    let at = g.R.Viewable.viewed in
    let L = views c.args.length in
    let v = c.args.view in
    let rs = entries c.args.nullifications.now in
    let near = c.last_to.result in
    let is : c.filter.result ≡ if_covering at L v near = search rules in
    let value : c.filter.result ≡ cover at L v rs = rw c.last_to.ensures.value at is in
    let highest = subst (HighestCover at L v rs) (sym is) (highest_covers at L v rs (to_the_end L c.args.length.positive) (covers_between L c.args.length.positive) near c.last_to.ensures.nearest) in
    record { value = value; highest_cover = highest; covered = covered_if_found at L v rs c.filter.result highest; by_some_row = by_some_row at L v }
