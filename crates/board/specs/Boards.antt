-- What each call makes of the open asks.
use Rattle.std.specs.Prelude.{ℕ, Bool, cond, not, ◌&&◌, ◌||◌, List, [], ◌∷◌, length, is_some, is_none, Some, None, filter, Option, nat_le}
use Rattle.effects.specs.declared.effect.Kind.{Kind}
use Rattle.board.specs.declared.ask.Ask.{Ask}
use Rattle.board.specs.declared.ask.Ask.TheVariants.{Background, Ancestry}
use Rattle.board.specs.declared.board.Counts.{Counts}
use Rattle.board.specs.declared.open.Open.{Open}
use Rattle.board.specs.declared.retire.Retire.{Retire}
use Rattle.board.specs.Asks.{is_background, place, place_of, retires}
use Rattle.board.specs.Sorting.{lookup, placed}

abbrev pub opened : ℕ → Ask → Option ℕ → Open
opened v a t = record { view = v; ask = a; target = t }

abbrev pub is_open : ℕ → Ask → List Open → Bool
is_open v a os = is_some (lookup (place v a) os)

-- how many of each sort are open
abbrev pub backgrounds : List Open → List Open
backgrounds os = filter (λ o. is_background o.ask) os

abbrev pub ancestries : List Open → List Open
ancestries os = filter (λ o. not (is_background o.ask)) os

abbrev pub counted : List Open → Counts
counted os = record { background = length (backgrounds os); ancestry = length (ancestries os) }

-- a background ask opens unless it is open, or 256 others are
abbrev pub backfilled : ℕ → List Open → List Open
backfilled v os = cond (is_open v Background os || nat_le 256 (length (backgrounds os))) os (placed (opened v Background None) os)

-- an ancestry ask that is not open finds 64 others
abbrev pub ancestry_full : ℕ → Kind → List Open → Bool
ancestry_full v k os = not (is_open v (Ancestry k) os) && nat_le 64 (length (ancestries os))

-- it opens with its target; where it is open no target clears its target, and a target changes nothing
abbrev pub requested : ℕ → Kind → Option ℕ → List Open → List Open
requested v k t os = cond (is_open v (Ancestry k) os && not (is_none t)) os (placed (opened v (Ancestry k) t) os)

abbrev pub retired : Retire → List Open → List Open
retired r os = filter (λ o. not (retires r o)) os

abbrev pub first_of : {X : Type 0} → List X → Option X
first_of [] = None
first_of (x ∷ xs) = Some x

-- the first one at or after a place
abbrev pub first_from : ℕ → Ask → List Open → Option Open
first_from v a os = first_of (filter (λ o. nat_le (place v a) (place_of o)) os)
