use Rattle.std.proofs.Common.{true, length, sym, ◌∙◌, subst, arith}
use Rattle.std.proofs.lemmas.List.{length-set, length-take-le}
use Rattle.table.specs.Rows.{Ascending, Here, Gap}
use Rattle.table.specs.Laws.{OneMore, Counted}
use Rattle.table.specs.Tables.{entries}
use Rattle.table.proofs.Laws.{one_more, counted}
use Rattle.table.proofs.Placing.{room_here, room_free, room_none, written_over, put_between, below_place}
use Rattle.table.proofs.Rising.{fewer_rise, with_row_rises}
use Rattle.table.proofs.lent.Table.insert.Goals as goal

pub invariant_of-self : goal.invariant_of-self
invariant_of-self g c =
    let at = g.R.Viewable.viewed in
    let t = c.args.self.now in
    let here = subst (λ v. Here at v (entries t) c.in-Ok.at) c.view.ensures c.in-Ok.ensures in
    record {
      fits = omega (arith, t.fits, length-set t.rows.now c.in-Ok.at c.args.row);
      rises = subst (Ascending at) (sym (written_over at t.rows.now t.len c.in-Ok.at c.args.row t.rises here)) (with_row_rises at c.args.row (entries t) t.rises);
    }

pub returns-in-Ok : goal.returns-in-Ok
returns-in-Ok g c =
    let at = g.R.Viewable.viewed in
    let t = c.args.self.now in
    let here = subst (λ v. Here at v (entries t) c.in-Ok.at) c.view.ensures c.in-Ok.ensures in
    let more = written_over at t.rows.now t.len c.in-Ok.at c.args.row t.rises here in
    record {
      room = room_here at (entries t) (length t.rows.now) c.args.row c.in-Ok.at t.rises here;
      rows = more;
      one_more = subst (OneMore at true c.args.row (entries t)) (sym more) (one_more at c.args.row (entries t));
      counted = subst (Counted at true c.args.row (entries t)) (sym more) (counted at c.args.row (entries t) t.rises);
      cap = length-set t.rows.now c.in-Ok.at c.args.row;
    }

pub returns-then-len-self-clause-room : goal.returns-then-len-self-clause-room
returns-then-len-self-clause-room g c =
    let at = g.R.Viewable.viewed in
    let t = c.args.self.now in
    let n = length-take-le t.len t.rows.now t.fits in
    let gap = subst (λ v. Gap at v (entries t) c.in-Err.at) c.view.ensures c.in-Err.ensures in
    room_none at (entries t) (length t.rows.now) c.args.row c.in-Err.at t.rises (omega arith) gap

-- those below the place alone, until the row stands
pub invariant_of-self-in-Err : goal.invariant_of-self-in-Err
invariant_of-self-in-Err g c =
    let t = c.args.self.now in
    let q = c.in-Err.ensures in
    let n = length-take-le t.len t.rows.now t.fits in
    record {
      fits = omega (arith, t.fits, q.parts.within);
      rises = fewer_rise g.R.Viewable.viewed t.len t.rows.now t.rises c.in-Err.at (omega (arith, q.parts.within));
    }

pub invariant_of-self-in-Err-2 : goal.invariant_of-self-in-Err-2
invariant_of-self-in-Err-2 g c =
    let at = g.R.Viewable.viewed in
    let t = c.args.self.now in
    let q = c.in-Err.ensures in
    let n = length-take-le t.len t.rows.now t.fits in
    let still = below_place at t.rows.now c.move_up.new.rows t.len c.in-Err.at t.rises t.fits c.view.result q (omega (arith, t.fits)) c.move_up.ensures.after in
    record {
      fits = omega (arith, t.fits, q.parts.within, c.move_up.ensures.len);
      rises = subst (Ascending at) (sym still) (fewer_rise at t.len t.rows.now t.rises c.in-Err.at (omega (arith, q.parts.within)));
    }

pub invariant_of-self-in-Err-3 : goal.invariant_of-self-in-Err-3
invariant_of-self-in-Err-3 g c =
    let at = g.R.Viewable.viewed in
    let t = c.args.self.now in
    let gap = subst (λ v. Gap at v (entries t) c.in-Err.at) c.view.ensures c.in-Err.ensures in
    let more = put_between at t.rows.now c.move_up.new.rows t.len c.in-Err.at t.rises t.fits c.args.row gap (omega (arith, t.fits)) c.move_up.ensures.after in
    record {
      fits = omega (arith, t.fits, c.move_up.ensures.len, length-set c.move_up.new.rows c.in-Err.at c.args.row);
      rises = subst (Ascending at) (sym more) (with_row_rises at c.args.row (entries t) t.rises);
    }

pub returns-else-len-self : goal.returns-else-len-self
returns-else-len-self g c =
    let at = g.R.Viewable.viewed in
    let t = c.args.self.now in
    let n = length-take-le t.len t.rows.now t.fits in
    let gap = subst (λ v. Gap at v (entries t) c.in-Err.at) c.view.ensures c.in-Err.ensures in
    let more = put_between at t.rows.now c.move_up.new.rows t.len c.in-Err.at t.rises t.fits c.args.row gap (omega (arith, t.fits)) c.move_up.ensures.after in
    record {
      room = room_free at (entries t) (length t.rows.now) c.args.row c.in-Err.at t.rises (omega (arith, t.fits));
      rows = more;
      one_more = subst (OneMore at true c.args.row (entries t)) (sym more) (one_more at c.args.row (entries t));
      counted = subst (Counted at true c.args.row (entries t)) (sym more) (counted at c.args.row (entries t) t.rises);
      cap = length-set c.move_up.new.rows c.in-Err.at c.args.row ∙ c.move_up.ensures.len;
    }
