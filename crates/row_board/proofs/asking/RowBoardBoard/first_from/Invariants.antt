use Rattle.std.proofs.Common.{◌≡◌, filter, take}
use Rattle.std.specs.Prelude.{nat_le}
use Rattle.board.specs.Asks.{place, place_of}
use Rattle.board.specs.Boards.{first_of}
use Rattle.board.specs.Sorting.{sorted}
use Rattle.row_board.specs.Entries.{asks_of}
use Rattle.row_board.proofs.asking.RowBoardBoard.first_from.Given as goal

abbrev pub invariant-loop-row : goal.invariant-loop-row
invariant-loop-row l = l.best ≡ first_of (filter (λ o. nat_le (place l.view l.ask) (place_of o)) (sorted (asks_of (take l.row-index l.row-items))))
