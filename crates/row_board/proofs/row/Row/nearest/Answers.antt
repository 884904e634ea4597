use Rattle.std.specs.Prelude.{nat_le}
use Rattle.board.specs.Asks.{place, place_of}
use Rattle.row_board.proofs.Keeping.{nearest_row}
use Rattle.row_board.proofs.row.Row.nearest.Goals as goal

pub returns : goal.returns
returns c =
    let all = nearest_row (λ o. nat_le (place c.args.view c.args.ask) (place_of o)) c.args.best c.args.self.now in
    cc (all, c.nearer.ensures, c.nearer-best.ensures, c.nearer-best-2.ensures, c.asked.ensures, c.asked-2.ensures, c.asked-3.ensures)
