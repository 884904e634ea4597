-- The nullification that covers a view. `at` tells the view of a row, and terms have L views.
use Rattle.std.specs.Prelude.{◌≡◌, ℕ, ◌<◌, Bool, true, false, cond, ◌||◌, List, [], ◌∷◌, Some, None, Decides, Option, MatchOption}
use Rattle.table.specs.Rows.{lookup, holds, highest}
use Rattle.terms.specs.Terms.{covering}

module _ {R : Type 0} (at : R → ℕ) (L v : ℕ) where
  -- a row, if it covers the view
  abbrev pub if_covering : Option R → Option R
  if_covering None = None
  if_covering (Some r) = cond (covering L (at r) v) (Some r) None

  -- the highest row at or below the view, if it covers the view
  unfoldable pub cover : List R → Option R
  cover rs = if_covering (highest at v rs)

  -- it covers the view, and no row above it does; if there is none, no row does
  abbrev pub HighestCover : List R → Option R → Type 0
  HighestCover rs found = MatchOption found ((u : ℕ) → covering L u v ≡ true → lookup at u rs ≡ None) (λ r. (covering L (at r) v ≡ true) × (lookup at (at r) rs ≡ Some r) × ((u : ℕ) → at r < u → covering L u v ≡ true → lookup at u rs ≡ None))

  -- whether some row covers the view
  unfoldable pub covered : List R → Bool
  covered [] = false
  covered (r ∷ rs) = covering L (at r) v || covered rs

  -- a view is covered exactly if there is a row at some view that covers it
  abbrev pub BySomeRow : List R → Type 0
  BySomeRow rs = Decides (covered rs) ((u : ℕ) × (covering L u v ≡ true) × (holds at u rs ≡ true))
