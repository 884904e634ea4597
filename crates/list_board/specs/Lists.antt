-- The asks that a list board keeps.
use Rattle.std.specs.Prelude.{List, take}
use Rattle.board.specs.Sorting.{sorted}
use Rattle.board.specs.declared.open.Open.{Open}
use Rattle.list_board.specs.declared.list.ListBoard.{ListBoard}

-- in the order in which they came
abbrev pub entries : ListBoard → List Open
entries s = take s.len s.list.now

-- and in the order of their places
abbrev pub asks_of : ListBoard → List Open
asks_of s = sorted (entries s)
