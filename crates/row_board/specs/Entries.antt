-- The asks of rows.
use Rattle.std.specs.Prelude.{ℕ, Bool, true, false, cond, not, ◌&&◌, ◌||◌, List, [], ◌∷◌, map, flat_map, filter, Some, None, Option, ◌==◌}
use Rattle.board.specs.Asks.{lower_of}
use Rattle.board.specs.declared.open.Open.{Open}
use Rattle.board.specs.declared.retire.Retire.{Retire}
use Rattle.row_board.specs.Rows.{asks_in, is_bare, closed}
use Rattle.row_board.specs.declared.row.Row.{Row}

-- whether a view has a row
abbrev pub has_row : ℕ → List Row → Bool
has_row v [] = false
has_row v (r ∷ rs) = r.view == v || has_row v rs

-- no two rows have the same view, and each has an ask
abbrev pub views_apart : List Row → Bool
views_apart [] = true
views_apart (r ∷ rs) = not (has_row r.view rs) && views_apart rs

abbrev pub none_bare : List Row → Bool
none_bare [] = true
none_bare (r ∷ rs) = not (is_bare r) && none_bare rs

-- the asks of rows
abbrev pub asks_of : List Row → List Open
asks_of rs = flat_map asks_in rs

-- the first that passes, of one that is known and of more
abbrev pub nearer : (Open → Bool) → Option Open → Open → Option Open
nearer p b o = cond (p o) (Some (lower_of b o)) b

unfoldable pub nearest : (Open → Bool) → Option Open → List Open → Option Open
nearest p b [] = b
nearest p b (o ∷ os) = nearest p (nearer p b o) os

-- what stays of rows
abbrev pub closed_rows : Retire → List Row → List Row
closed_rows q rs = filter (λ r. not (is_bare r)) (map (closed q) rs)

abbrev pub some_of : Option Open → List Open
some_of None = []
some_of (Some o) = o ∷ []
