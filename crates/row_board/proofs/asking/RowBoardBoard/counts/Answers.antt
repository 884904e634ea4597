use Rattle.std.proofs.Common.{arith}
use Rattle.row_board.specs.Boards.{rows_of}
use Rattle.row_board.proofs.Entries.{ancestry_rows}
use Rattle.row_board.proofs.Keeping.{background_counted, counted_rows}
use Rattle.row_board.proofs.asking.RowBoardBoard.counts.Goals as goal

pub overflow_add-result : goal.overflow_add-result
overflow_add-result c =
    let s = c.args.self.now in
    omega (arith, s.ancestry_few, ancestry_rows (rows_of s), c.count.ensures, c.count-2.ensures)

pub returns : goal.returns
returns c =
    let s = c.args.self.now in
    let all = counted_rows (rows_of s) s.apart in
    let own = background_counted (rows_of s) s.apart in
    cc (c.background.ensures, c.count.ensures, c.count-2.ensures, own, all)
