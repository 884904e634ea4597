-- From the nearest row to the one that covers.
use Rattle.std.proofs.Common.{◌≡◌, ℕ, true, false, eqb, List, [], ◌∷◌, is_some, Some, None, Option, sym, refl, ap, ◌∙◌, subst, inl, inr}
use Rattle.std.proofs.lemmas.Bool.{both_ways, true≢false, cases_Bool, cases_lt, cond-true, cond-false, eq-eqb, eqb-true, or_left, or_right, or_cases}
use Rattle.table.specs.Laws.{Nearest}
use Rattle.table.specs.Rows.{lookup, holds}
use Rattle.terms.specs.Laws.{ToTheEnd, CoversBetween}
use Rattle.terms.specs.Terms.{covering}
use Rattle.cover.specs.Covers.{if_covering, covered, HighestCover, BySomeRow}

module _ {R : Type 0} (at : R → ℕ) (L v : ℕ) (rs : List R) (ends : ToTheEnd L) where
  pub nothing_below : Nearest at v rs None → HighestCover at L v rs None
  nothing_below near u t = near u ((ends u v).0 t).0

  pub this_covers : (r : R) → Nearest at v rs (Some r) → covering L (at r) v ≡ true → HighestCover at L v rs (Some r)
  this_covers r near t = (t, near.1, λ u h s. near.2 u h ((ends u v).0 s).0)

  pub another_term : CoversBetween L → (r : R) → Nearest at v rs (Some r) → covering L (at r) v ≡ false → HighestCover at L v rs None
  another_term between r near f u t = elim (cases_lt (at r) u) [ inl h ↦ near.2 u h ((ends u v).0 t).0 | inr h ↦ absurd (both_ways _ f (between u (at r) v h near.0 t)) ]

  -- the nearest row is the highest that covers, or none is
  pub highest_covers : CoversBetween L → (near : Option R) → Nearest at v rs near → HighestCover at L v rs (if_covering at L v near)
  highest_covers between None near = nothing_below near
  highest_covers between (Some r) near = elim (cases_Bool (covering L (at r) v)) [
    | inl t ↦ subst (HighestCover at L v rs) (sym (cond-true (covering L (at r) v) (Some r) None t)) (this_covers r near t)
    | inr f ↦ subst (HighestCover at L v rs) (sym (cond-false (covering L (at r) v) (Some r) None f)) (another_term between r near f)
  ]

module _ {R : Type 0} (at : R → ℕ) (L v : ℕ) where
  some_row : (rs : List R) → covered at L v rs ≡ true → (u : ℕ) × (covering L u v ≡ true) × (holds at u rs ≡ true)
  unfolding covered lookup
  some_row [] t = absurd (true≢false (sym t))
  some_row (r ∷ rs) t = elim (or_cases (covering L (at r) v) (covered at L v rs) t) [
    | inl here ↦ (at r, here, ap is_some (cond-true (eqb (at r) (at r)) (Some r) (lookup at (at r) rs) (eq-eqb (at r) (at r) refl)))
    | inr later ↦ let m = some_row rs later in
        (m.0, m.1, elim (cases_Bool (eqb (at r) m.0)) [ inl same ↦ rw same refl | inr other ↦ rw other m.2 ])
  ]

  that_row : (rs : List R) (u : ℕ) → covering L u v ≡ true → holds at u rs ≡ true → covered at L v rs ≡ true
  unfolding covered lookup
  that_row [] u t h = absurd (true≢false (sym h))
  that_row (r ∷ rs) u t h = elim (cases_Bool (eqb (at r) u)) [
    | inl same ↦ or_left _ _ (ap (λ n. covering L n v) (eqb-true (at r) u same) ∙ t)
    | inr other ↦ or_right _ _ (that_row rs u t (sym (ap is_some (cond-false (eqb (at r) u) (Some r) (lookup at u rs) other)) ∙ h))
  ]

  pub by_some_row : (rs : List R) → BySomeRow at L v rs
  by_some_row rs = (some_row rs, λ m. that_row rs m.0 m.1 m.2)

  -- so it is told by whether a highest one is found
  pub covered_if_found : (rs : List R) (found : Option R) → HighestCover at L v rs found → is_some found ≡ covered at L v rs
  covered_if_found rs None none = elim (cases_Bool (covered at L v rs)) [
    | inl t ↦ let m = some_row rs t in absurd (both_ways (holds at m.0 rs) (ap is_some (none m.0 m.1)) m.2)
    | inr f ↦ sym f
  ]
  covered_if_found rs (Some r) some = sym (that_row rs (at r) some.0 (ap is_some some.1))
