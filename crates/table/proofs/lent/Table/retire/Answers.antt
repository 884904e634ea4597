use Rattle.std.proofs.Common.{◌≡◌, ◌-◌, sym, ap, ◌∙◌, subst, arith}
use Rattle.std.specs.List.{copy_within}
use Rattle.table.specs.Rows.{Ascending}
use Rattle.table.specs.Laws.{OnlyKept, NoMore}
use Rattle.table.specs.Tables.{entries}
use Rattle.table.proofs.Laws.{only_kept, no_more_kept}
use Rattle.table.proofs.Placing.{cut_off}
use Rattle.table.proofs.Rising.{fewer_rise, kept_rises}
use Rattle.table.proofs.lent.Table.retire.Goals as goal

-- the lowest rows alone, until the others come down
pub invariant_of-self : goal.invariant_of-self
invariant_of-self g c = let t = c.args.self.now in record {
  fits = omega (arith, t.fits);
  rises = fewer_rise g.R.Viewable.viewed t.len t.rows.now t.rises (t.len - c.first_kept-n.result) (omega arith);
}

pub invariant_of-self-2 : goal.invariant_of-self-2
invariant_of-self-2 g c =
    let at = g.R.Viewable.viewed in
    let p = g.O.Order.keeping c.args.order.now in
    let t = c.args.self.now in
    let n = c.first_kept-n.result in
    let front : n - n ≡ 0 = omega arith in
    let down = c.move_down.ensures.after ∙ ap (copy_within t.rows.now n t.len) front in
    let left = cut_off at t.rows.now c.move_down.new.rows t.len n t.rises t.fits p c.first_kept-n.ensures down in
    record {
      fits = omega (arith, t.fits, c.move_down.ensures.len);
      rises = subst (Ascending at) (sym left) (kept_rises at p (entries t) t.rises);
    }

pub returns : goal.returns
returns g c =
    let at = g.R.Viewable.viewed in
    let p = g.O.Order.keeping c.args.order.now in
    let t = c.args.self.now in
    let old = entries t in
    let n = c.first_kept-n.result in
    let front : n - n ≡ 0 = omega arith in
    let down = c.move_down.ensures.after ∙ ap (copy_within t.rows.now n t.len) front in
    let left = cut_off at t.rows.now c.move_down.new.rows t.len n t.rises t.fits p c.first_kept-n.ensures down in
    record {
      rows = left;
      only_kept = subst (OnlyKept at p old) (sym left) (only_kept at p old);
      no_more = subst (NoMore old) (sym left) (no_more_kept at p old);
      cap = c.move_down.ensures.len;
    }
