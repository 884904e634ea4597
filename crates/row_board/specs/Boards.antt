-- The asks that a row board keeps.
use Rattle.std.specs.Prelude.{List, take}
use Rattle.board.specs.Sorting.{sorted}
use Rattle.board.specs.declared.open.Open.{Open}
use Rattle.row_board.specs.Entries.{asks_of}
use Rattle.row_board.specs.declared.row.Row.{Row}
use Rattle.row_board.specs.declared.rows.RowBoard.{RowBoard}

abbrev pub rows_of : RowBoard → List Row
rows_of s = take s.len s.rows.now

abbrev pub open_asks : RowBoard → List Open
open_asks s = sorted (asks_of (rows_of s))
