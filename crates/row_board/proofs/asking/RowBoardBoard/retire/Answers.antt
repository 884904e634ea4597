use Rattle.std.proofs.Common.{◌≡◌, not, take, filter, ap, sym, subst, ◌∙◌, arith}
use Rattle.board.specs.Sorting.{sorted}
use Rattle.row_board.specs.Boards.{rows_of}
use Rattle.row_board.specs.Entries.{asks_of, closed_rows}
use Rattle.row_board.specs.Rows.{is_bare}
use Rattle.row_board.specs.declared.rows.RowBoard.{RowBoard}
use Rattle.row_board.proofs.Keeping.{Kept, closing, kept_closed}
use Rattle.row_board.proofs.asking.RowBoardBoard.retire.Goals as goal

kept_by : (s : RowBoard) → Kept (rows_of s)
kept_by s = record { apart = s.apart; filled = s.filled; background_few = s.background_few; ancestry_few = s.ancestry_few }

pub invariant_of-self-3 : goal.invariant_of-self-3
invariant_of-self-3 c =
    let s = c.args.self.now in
    let q = c.args.retire in
    let left : take c.drop_empty-self.result c.drop_empty-self.new.rows ≡ closed_rows q (rows_of s) =
    c.drop_empty-self.ensures.kept ∙ ap (filter (λ r. not (is_bare r))) (ap (take s.len) c.close_all.ensures ∙ closing q s.rows.now s.len s.fits) in
    let k = subst Kept (sym left) (kept_closed q (rows_of s) (kept_by s)).0 in
    record {
      fits = omega (arith, s.fits, c.drop_empty-self.ensures.fewer, c.drop_empty-self.ensures.long);
      enough = omega (arith, s.enough, c.drop_empty-self.ensures.long);
      apart = k.apart;
      filled = k.filled;
      background_few = k.background_few;
      ancestry_few = k.ancestry_few;
    }

pub returns : goal.returns
returns c =
    let s = c.args.self.now in
    let q = c.args.retire in
    let left : take c.drop_empty-self.result c.drop_empty-self.new.rows ≡ closed_rows q (rows_of s) =
    c.drop_empty-self.ensures.kept ∙ ap (filter (λ r. not (is_bare r))) (ap (take s.len) c.close_all.ensures ∙ closing q s.rows.now s.len s.fits) in
    ap (λ rs. sorted (asks_of rs)) left ∙ (kept_closed q (rows_of s) (kept_by s)).1
