use Rattle.std.proofs.Common.{◌≡◌, filter, take}
use Rattle.std.specs.Prelude.{nat_le}
use Rattle.board.specs.Asks.{place, place_of}
use Rattle.board.specs.Boards.{first_of}
use Rattle.board.specs.Sorting.{sorted}
use Rattle.list_board.proofs.asking.ListBoardBoard.first_from.Given as goal

abbrev pub invariant-loop-asked : goal.invariant-loop-asked
invariant-loop-asked l = l.best ≡ first_of (filter (λ o. nat_le (place l.view l.ask) (place_of o)) (sorted (take l.asked-index l.asked-items)))
