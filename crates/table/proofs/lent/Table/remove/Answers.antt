use Rattle.std.proofs.Common.{◌≡◌, ◌+◌, ◌-◌, sym, refl, ap, ◌∙◌, subst, arith}
use Rattle.std.specs.List.{copy_within}
use Rattle.table.specs.Rows.{Ascending}
use Rattle.table.specs.Laws.{OneLess, NoMore}
use Rattle.table.specs.Tables.{entries}
use Rattle.table.proofs.Laws.{one_less, no_more_without}
use Rattle.table.proofs.Placing.{cut_out, without_absent}
use Rattle.table.proofs.Rising.{fewer_rise, without_rises}
use Rattle.table.proofs.lent.Table.remove.Goals as goal

pub returns-in_default : goal.returns-in_default
returns-in_default g c =
    let at = g.R.Viewable.viewed in
    let old = entries c.args.self.now in
    let q = c.in_default.ensures in
    let still = sym (without_absent at old c.args.view c.in_default.field-0 q.parts c.args.self.now.rises q.none) in
    record {
      rows = still;
      one_less = subst (OneLess at c.args.view old) (sym still) (one_less at c.args.view old);
      no_more = subst (NoMore old) (sym still) (no_more_without at c.args.view old);
      cap = refl;
    }

-- the rows but the last, until those behind the place come down
pub invariant_of-self : goal.invariant_of-self
invariant_of-self g c = let t = c.args.self.now in record {
  fits = omega (arith, t.fits);
  rises = fewer_rise g.R.Viewable.viewed t.len t.rows.now t.rises (t.len - 1) (omega arith);
}

pub invariant_of-self-2 : goal.invariant_of-self-2
invariant_of-self-2 g c =
    let at = g.R.Viewable.viewed in
    let t = c.args.self.now in
    let place : c.in-Ok.at + 1 - 1 ≡ c.in-Ok.at = omega arith in
    let down = c.move_down.ensures.after ∙ ap (copy_within t.rows.now (c.in-Ok.at + 1) t.len) place in
    let left = cut_out at t.rows.now c.move_down.new.rows t.len c.in-Ok.at t.rises t.fits c.args.view c.in-Ok.ensures down in
    record {
      fits = omega (arith, t.fits, c.move_down.ensures.len);
      rises = subst (Ascending at) (sym left) (without_rises at c.args.view (entries t) t.rises);
    }

pub returns : goal.returns
returns g c =
    let at = g.R.Viewable.viewed in
    let t = c.args.self.now in
    let old = entries t in
    let place : c.in-Ok.at + 1 - 1 ≡ c.in-Ok.at = omega arith in
    let down = c.move_down.ensures.after ∙ ap (copy_within t.rows.now (c.in-Ok.at + 1) t.len) place in
    let left = cut_out at t.rows.now c.move_down.new.rows t.len c.in-Ok.at t.rises t.fits c.args.view c.in-Ok.ensures down in
    record {
      rows = left;
      one_less = subst (OneLess at c.args.view old) (sym left) (one_less at c.args.view old);
      no_more = subst (NoMore old) (sym left) (no_more_without at c.args.view old);
      cap = c.move_down.ensures.len;
    }
