-- Views that rise from each row to the next rise from each to every later one.
use Rattle.std.proofs.Common.{◌≡◌, ℕ, ◌+◌, ◌-◌, ◌<◌, ◌≤◌, List, length, get_or, ap, ◌∙◌, sym, inl, inr, arith}
use Rattle.std.proofs.lemmas.Bool.{cases_eq}
use Rattle.table.specs.Rows.{views, Ascending}
use Rattle.table.proofs.Placing.{view_of}

module _ {R : Type 0} (at : R → ℕ) (rs : List R) (i : ℕ) (x y : R) (low : 1 ≤ i) (in_rows : i < length rs) (is_x : x ≡ get_or rs (i - 1) x) (is_y : y ≡ get_or rs i y) where
  before : get_or (views at rs) (i - 1) 0 ≡ at x
  before = view_of at rs (i - 1) x (omega arith) ∙ sym (ap at is_x)

  here : get_or (views at rs) i 0 ≡ at y
  here = view_of at rs i y in_rows ∙ sym (ap at is_y)

  pub one_more : at x < at y → ((a b : ℕ) → a < b → b < i → get_or (views at rs) a 0 < get_or (views at rs) b 0) → (a b : ℕ) → a < b → b < i + 1 → get_or (views at rs) a 0 < get_or (views at rs) b 0
  one_more h inv a b lt top =
      elim (cases_eq b i) [
        | inr other ↦ inv a b lt (omega arith)
        | inl same ↦ rw same (elim (cases_eq a (i - 1)) [
          | inl next ↦ rw next (omega (arith, before, here))
          | inr lower ↦ let up = inv a (i - 1) (omega arith) (omega arith) in omega (arith, before, here)
        ])
      ]

  pub no_more : at y ≤ at x → Ascending at rs → ⊥
  no_more h asc = let up = asc (i - 1) i (omega arith) in_rows in omega (arith, before, here)
