-- Open asks in the order of their places.
use Rattle.std.specs.Prelude.{ℕ, ◌<◌, Bool, true, cond, not, ◌&&◌, List, [], ◌∷◌, is_some, Some, None, Option, ◌==◌, nat_lt}
use Rattle.std.specs.List.{AllByRecursion}
use Rattle.board.specs.Asks.{place_of}
use Rattle.board.specs.declared.open.Open.{Open}

-- the ask of a place, if it is open
unfoldable pub lookup : ℕ → List Open → Option Open
lookup p [] = None
lookup p (o ∷ os) = cond (place_of o == p) (Some o) (lookup p os)

-- the asks with one more at its place, where it stands instead of one that is there
unfoldable pub placed : Open → List Open → List Open
placed o [] = o ∷ []
placed o (x ∷ xs) = cond (nat_lt (place_of o) (place_of x)) (o ∷ (x ∷ xs)) (cond (place_of o == place_of x) (o ∷ xs) (x ∷ placed o xs))

-- each comes before those after it
abbrev pub Rises : List Open → Type 0
Rises [] = Unit {0}
Rises (o ∷ os) = AllByRecursion (λ x. place_of o < place_of x) os × Rises os

-- asks in any order, put in order
unfoldable pub sorted : List Open → List Open
sorted [] = []
sorted (o ∷ os) = placed o (sorted os)

-- no two have the same place
abbrev pub distinct : List Open → Bool
distinct [] = true
distinct (o ∷ os) = not (is_some (lookup (place_of o) os)) && distinct os
