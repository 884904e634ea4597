use Rattle.std.proofs.Common.{◌≡◌, ◌-◌, length, take, slice_get, sym, ap, ◌∙◌, subst}
use Rattle.table.specs.Rows.{highest}
use Rattle.table.specs.Laws.{Nearest}
use Rattle.table.specs.Tables.{entries}
use Rattle.table.proofs.Laws.{nearest}
use Rattle.table.proofs.Placing.{highest_is}
use Rattle.table.proofs.lent.Table.last_to.Goals as goal

pub returns : goal.returns
returns g c =
    let at = g.R.Viewable.viewed in
    let rs = entries c.args.self.now in
    let n = c.first_kept-n.result in
    let last = ap (λ xs. slice_get (take n xs) (length (take n xs) - 1)) c.as_slice.ensures.rows in
    let is : c.copied.result ≡ highest at c.args.view rs = c.copied.ensures ∙ c.last.ensures.value ∙ last ∙ sym (highest_is at rs c.args.view n c.first_kept-n.ensures) in
    record { value = is; nearest = subst (Nearest at c.args.view rs) (sym is) (nearest at c.args.view rs c.args.self.now.rises) }
