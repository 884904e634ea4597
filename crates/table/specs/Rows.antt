-- Rows in ascending order of their views, and what each change makes of them. `at` tells the view of a row.
use Rattle.std.specs.Prelude.{◌≡◌, ℕ, ◌<◌, ◌≤◌, Bool, true, false, cond, not, ◌||◌, ltb, List, [], ◌∷◌, ◌++◌, map, length, take, is_some, Some, None, filter, Option, ◌==◌, ◌≢◌, nat_le, nat_lt, slice_index, slice_index_or}

-- the last element, if there is one
abbrev pub last_of : {R : Type 0} → List R → Option R
last_of [] = None
last_of (r ∷ []) = Some r
last_of (r ∷ s ∷ rs) = last_of (s ∷ rs)

module _ {R : Type 0} (at : R → ℕ) where
  -- the views, in the rows' order
  abbrev pub views : List R → List ℕ
  views rs = map at rs

  -- the views rise from each row to every later one
  abbrev pub Ascending : List R → Type 0
  Ascending rs = (i j : ℕ) → i < j → j < length rs → slice_index (views rs) i < slice_index (views rs) j

  -- so many rows that a table may hold them
  pub record Resumable (n : ℕ) (rs : List R) : Type 0 where
    pub fits : n ≤ length rs
    pub rises : Ascending (take n rs)

  -- the row of a view, if there is one
  unfoldable pub lookup : ℕ → List R → Option R
  lookup v [] = None
  lookup v (r ∷ rs) = cond (at r == v) (Some r) (lookup v rs)

  abbrev pub holds : ℕ → List R → Bool
  holds v rs = is_some (lookup v rs)

  -- the highest row at or below a view, if there is one
  unfoldable pub highest : ℕ → List R → Option R
  highest v rs = last_of (filter (λ r. nat_le (at r) v) rs)

  -- the rows of other views
  unfoldable pub without : ℕ → List R → List R
  without v rs = filter (λ r. not (at r == v)) rs

  -- the rows below a view, and those above it
  abbrev pub below : ℕ → List R → List R
  below v rs = filter (λ r. ltb (at r) v) rs

  abbrev pub beyond : ℕ → List R → List R
  beyond v rs = filter (λ r. ltb v (at r)) rs

  -- the rows with this one at its place, where it replaces one of the same view
  unfoldable pub with_row : R → List R → List R
  with_row r rs = below (at r) rs ++ r ∷ beyond (at r) rs

  -- whether `cap` places have room for a row: it replaces one, or a place is free
  abbrev pub has_room : ℕ → R → List R → Bool
  has_room cap r rs = holds (at r) rs || nat_lt (length rs) cap

  -- the rows that an order keeps
  unfoldable pub kept : (ℕ → Bool) → List R → List R
  kept p rs = filter (λ r. p (at r)) rs

  -- a place that parts the rows: those before it are not kept, and the others are
  pub record Parts (p : ℕ → Bool) (rs : List R) (i : ℕ) : Type 0 where
    pub within : i ≤ length rs
    pub before : (k : ℕ) → k < i → p (slice_index (views rs) k) ≡ false
    pub after : (k : ℕ) → i ≤ k → k < length rs → p (slice_index (views rs) k) ≡ true

  -- a row of the view stands at its place
  pub record Here (v : ℕ) (rs : List R) (i : ℕ) : Type 0 where
    pub parts : Parts (nat_le v) rs i
    pub within : i < length rs
    pub is : slice_index_or (views rs) i 0 ≡ v

  -- none stands there
  pub record Gap (v : ℕ) (rs : List R) (i : ℕ) : Type 0 where
    pub parts : Parts (nat_le v) rs i
    pub none : i < length rs → slice_index (views rs) i ≢ v
