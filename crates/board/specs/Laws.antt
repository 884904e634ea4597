-- Asks in any order, and the same asks in order: crates above build on these laws.
use Rattle.std.specs.Prelude.{◌≡◌, ℕ, ◌<◌, Bool, true, cond, List, [], ◌∷◌, ◌++◌, length, take, Some, None, filter, ◌==◌, slice_index_or, slice_set}
use Rattle.board.specs.Asks.{place_of, lower_of}
use Rattle.board.specs.Boards.{first_of}
use Rattle.board.specs.Sorting.{lookup, placed, Rises, sorted, distinct}
use Rattle.board.specs.declared.open.Open.{Open}

-- put in order, they rise, and the same is found
abbrev pub InOrder : Type 0
InOrder = (os : List Open) → Rises (sorted os) × ((k : ℕ) → lookup k (sorted os) ≡ lookup k os)

-- where the same is found but for one more, they are the same but for that one
abbrev pub OneMore : Type 0
OneMore = (o : Open) (os more : List Open) → ((k : ℕ) → lookup k more ≡ cond (place_of o == k) (Some o) (lookup k os)) → sorted more ≡ placed o (sorted os)

-- one that is not there comes last
abbrev pub Pushed : Type 0
Pushed = (o : Open) (os : List Open) → distinct os ≡ true → lookup (place_of o) os ≡ None → (sorted (os ++ o ∷ []) ≡ placed o (sorted os)) × (distinct (os ++ o ∷ []) ≡ true)

-- one stands instead of another of its place
abbrev pub Replaced : Type 0
Replaced = (o : Open) (os : List Open) (i : ℕ) → distinct os ≡ true → i < length os → place_of (slice_index_or os i o) ≡ place_of o → (sorted (slice_set os i o) ≡ placed o (sorted os)) × (distinct (slice_set os i o) ≡ true)

-- what stands at a place of a list is not found before it
abbrev pub NoneBefore : Type 0
NoneBefore = (os : List Open) (i : ℕ) (o : Open) → distinct os ≡ true → i < length os → (distinct (take i os) ≡ true) × (lookup (place_of (slice_index_or os i o)) (take i os) ≡ None)

-- those that pass a test
abbrev pub Filtered : Type 0
Filtered = (p : Open → Bool) (os : List Open) → distinct os ≡ true → (sorted (filter p os) ≡ filter p (sorted os)) × (distinct (filter p os) ≡ true)

-- how many pass a test
abbrev pub CountedAlike : Type 0
CountedAlike = (p : Open → Bool) (os : List Open) → distinct os ≡ true → length (filter p (sorted os)) ≡ length (filter p os)

-- the first that passes a test, after one went in
abbrev pub FirstOfMore : Type 0
FirstOfMore = (p : Open → Bool) (o : Open) (os : List Open) → Rises os → lookup (place_of o) os ≡ None → first_of (filter p (placed o os)) ≡ cond (p o) (Some (lower_of (first_of (filter p os)) o)) (first_of (filter p os))
