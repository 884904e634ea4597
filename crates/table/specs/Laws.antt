-- What a caller builds on: each change, told by what is found at each view afterwards.
use Rattle.std.specs.Prelude.{◌≡◌, ℕ, ◌+◌, ◌<◌, ◌≤◌, Bool, cond, not, ◌&&◌, List, length, IfSome, Some, None, Option, MatchOption, ◌==◌}
use Rattle.table.specs.Rows.{lookup, holds}

-- there are no more rows than before
abbrev pub NoMore : {R : Type 0} → List R → List R → Type 0
NoMore before after = length after ≤ length before

module _ {R : Type 0} (at : R → ℕ) where
  -- nothing is found
  abbrev pub NothingFound : List R → Type 0
  NothingFound rs = (v : ℕ) → lookup at v rs ≡ None

  -- what is found at a view is of that view
  abbrev pub OfItsView : ℕ → Option R → Type 0
  OfItsView v found = IfSome found (λ r. at r ≡ v)

  -- a row that stands at a place is found at its view
  abbrev pub FoundItself : List R → Option R → Type 0
  FoundItself rs placed = IfSome placed (λ r. lookup at (at r) rs ≡ Some r)

  -- nothing is found between the nearest row and the view; if there is none, nothing at or below the view
  abbrev pub Nearest : ℕ → List R → Option R → Type 0
  Nearest v rs near = MatchOption near ((u : ℕ) → u ≤ v → lookup at u rs ≡ None) (λ r. (at r ≤ v) × (lookup at (at r) rs ≡ Some r) × ((u : ℕ) → at r < u → u ≤ v → lookup at u rs ≡ None))

  -- a row that went in is found at its view; everything else is found as before
  abbrev pub OneMore : Bool → R → List R → List R → Type 0
  OneMore taken r before after = (v : ℕ) → lookup at v after ≡ cond (taken && at r == v) (Some r) (lookup at v before)

  -- a row that went in counts, unless it stands instead of another
  abbrev pub Counted : Bool → R → List R → List R → Type 0
  Counted taken r before after = length after ≡ cond (taken && not (holds at (at r) before)) (length before + 1) (length before)

  -- nothing is found at the view; everything else is found as before
  abbrev pub OneLess : ℕ → List R → List R → Type 0
  OneLess u before after = (v : ℕ) → lookup at v after ≡ cond (u == v) None (lookup at v before)

  -- what is kept is found as before, and nothing else is found
  abbrev pub OnlyKept : (ℕ → Bool) → List R → List R → Type 0
  OnlyKept p before after = (v : ℕ) → lookup at v after ≡ cond (p v) (lookup at v before) None
