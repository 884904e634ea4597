-- The open asks that are left to go through.
use Rattle.std.specs.Prelude.{ℕ, ◌^◌, ◌&&◌, List, [], filter, Some, None, Option, nat_le, nat_lt}
use Rattle.board.specs.Asks.{place, place_of}
use Rattle.board.specs.declared.ask.Ask.{Ask}
use Rattle.board.specs.declared.open.Open.{Open}

-- those at views of 64 bits: a board of this language has no others
abbrev pub shown : List Open → List Open
shown os = filter (λ o. nat_lt o.view (2 ^ 64)) os

-- those of them that do not come before a place
abbrev pub shown_from : ℕ → List Open → List Open
shown_from p os = filter (λ o. nat_le p (place_of o) && nat_lt o.view (2 ^ 64)) os

-- those that are left, from the next place on
abbrev pub from_next : Option (ℕ × Ask) → List Open → List Open
from_next None os = []
from_next (Some n) os = shown_from (place n.0 n.1) os
