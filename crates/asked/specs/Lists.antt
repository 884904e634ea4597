-- The open asks that rows say: in order, each once, and not too many.
use Rattle.std.specs.Prelude.{◌≡◌, ◌≤◌, Bool, cond, ◌&&◌, List, [], ◌∷◌, ◌++◌, map, length, is_none, Some, None, Option, nat_lt}
use Rattle.std.specs.List.{AllByRecursion}
use Rattle.board.specs.Asks.{is_background}
use Rattle.board.specs.Boards.{backgrounds, ancestries, first_from}
use Rattle.board.specs.Sorting.{Rises}
use Rattle.board.specs.declared.open.Open.{Open}
use Rattle.asked.specs.declared.row.Asked.{Asked}
use Rattle.asked.specs.Rows.{Fitting, open_of, row_of}

-- it comes behind all others, and there are fewer of its sort than may be
abbrev pub comes_last : Open → List Open → Bool
comes_last o os = cond (is_background o.ask) (nat_lt (length (backgrounds os)) 256) (nat_lt (length (ancestries os)) 64) && is_none (first_from o.view o.ask os)

-- asks with one more, if it is one and comes last
abbrev pub if_last : Option Open → List Open → Option (List Open)
if_last None os = None
if_last (Some o) os = cond (comes_last o os) (Some (os ++ o ∷ [])) None

-- asks with those of rows behind them, if each comes last
unfoldable pub appending : Option (List Open) → List Asked → Option (List Open)
appending os [] = os
appending None (r ∷ rs) = None
appending (Some os) (r ∷ rs) = appending (if_last (open_of r) os) rs

abbrev pub appended : List Open → List Asked → Option (List Open)
appended os rs = appending (Some os) rs

-- the asks that rows say, if they do
abbrev pub asks_in : List Asked → Option (List Open)
asks_in rs = appended [] rs

-- asks in order, and not too many, are read back from their rows
abbrev pub ReadsBack : Type 0
ReadsBack = (os : List Open) → Rises os → AllByRecursion Fitting os → length (backgrounds os) ≤ 256 → length (ancestries os) ≤ 64 → asks_in (map row_of os) ≡ Some os
