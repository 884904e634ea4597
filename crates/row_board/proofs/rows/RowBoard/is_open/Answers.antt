use Rattle.std.proofs.Common.{get_or, ap, sym, ◌∙◌}
use Rattle.row_board.specs.Boards.{rows_of}
use Rattle.row_board.specs.Rows.{fresh, has}
use Rattle.row_board.proofs.Keeping.{open_in_row, open_nowhere}
use Rattle.row_board.proofs.rows.RowBoard.is_open.Goals as goal

pub returns-in_default : goal.returns-in_default
returns-in_default c = open_nowhere c.args.view c.args.ask (rows_of c.args.self.now) (sym c.find.ensures ∙ c.in_default.is)

pub returns : goal.returns
returns c =
    c.has.ensures
    ∙ (ap (λ rs. has c.args.ask (get_or rs c.in-Some.at (fresh 0))) c.as_slice.ensures
    ∙ open_in_row c.args.view c.args.ask (rows_of c.args.self.now) c.in-Some.at (fresh 0) c.args.self.now.apart (sym c.find.ensures ∙ c.in-Some.is))
