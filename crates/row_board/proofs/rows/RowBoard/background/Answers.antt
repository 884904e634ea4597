use Rattle.std.proofs.Common.{◌∙◌}
use Rattle.row_board.specs.Boards.{rows_of}
use Rattle.row_board.proofs.Keeping.{background_counted}
use Rattle.row_board.proofs.rows.RowBoard.background.Goals as goal

pub returns : goal.returns
returns c =
    let s = c.args.self.now in
    c.count.ensures ∙ background_counted (rows_of s) s.apart
