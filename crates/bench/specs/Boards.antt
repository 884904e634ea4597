-- A stream on the board that its header names.
use Rattle.std.specs.Prelude.{◌≡◌, ℕ, List, []}
use Rattle.list_board.specs.Lists.{asks_of}
use Rattle.list_board.specs.declared.list.ListBoard.{ListBoard}
use Rattle.row_board.specs.Boards.{open_asks}
use Rattle.row_board.specs.declared.rows.RowBoard.{RowBoard}
use Rattle.stepping.specs.Runs.{Whole}
use Rattle.stepping.specs.declared.tally.Line.{Line}
use Rattle.steps.specs.declared.header.BoardKind.{BoardKind}
use Rattle.steps.specs.declared.header.BoardKind.TheVariants as kind
use Rattle.steps.specs.declared.header.Header.{Header}

-- it begins with nothing open
abbrev pub WholeOn : BoardKind → Header → List ℕ → Line → Type 0
WholeOn kind.Rows h bs l = (board : RowBoard) × (open_asks board ≡ []) × Whole open_asks h bs board l
WholeOn kind.List h bs l = (board : ListBoard) × (asks_of board ≡ []) × Whole asks_of h bs board l
