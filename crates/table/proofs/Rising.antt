-- Rows still ascend after each change.
use Rattle.std.proofs.Common.{◌≡◌, ℕ, zero, suc, ◌<◌, ◌≤◌, Bool, true, not, eqb, ltb, List, [], ◌∷◌, ◌++◌, filter, get_or, take, sym, ap, ◌∙◌, arith}
use Rattle.std.specs.List.{AllByRecursion as All}
use Rattle.std.proofs.ByRecursion.{all_from_every, All-get_or, All-append, All-weaker, all_kept_by, kept_by_passes}
use Rattle.std.proofs.lemmas.List.{length-take, take-map, get_or-take}
use Rattle.std.proofs.lemmas.Bool.{cond_both, ltb-true}
use Rattle.table.specs.Rows.{views, Ascending, below, beyond, with_row, without, kept}
use Rattle.table.proofs.Placing.{view_of}

module _ {R : Type 0} (at : R → ℕ) where
  -- each row lies below all after it
  abbrev pub Up : List R → Type 0
  Up [] = Unit {0}
  Up (r ∷ rs) = All (λ s. at r < at s) rs × Up rs

  pub up_from : (rs : List R) → Ascending at rs → Up rs
  up_from [] asc = tt
  up_from (r ∷ rs) asc = (
    all_from_every (λ s. at r < at s) rs (λ k d _ h. omega (arith, asc 0 (suc k) (omega arith) (omega arith), view_of at rs k d h)),
    up_from rs (λ i j ij jl. asc (suc i) (suc j) (omega arith) (omega arith)),
  )

  ascending_from : (rs : List R) → Up rs → Ascending at rs
  ascending_from [] u i j ij jl = absurd (omega arith)
  ascending_from (r ∷ rs) u i zero ij jl = absurd (omega arith)
  ascending_from (r ∷ rs) u zero (suc j) ij jl = omega (arith, All-get_or (λ s. at r < at s) rs j r (omega arith) u.0, view_of at rs j r (omega arith))
  ascending_from (r ∷ rs) u (suc i) (suc j) ij jl = ascending_from rs u.1 i j (omega arith) (omega arith)

  pub up_kept : (p : R → Bool) (rs : List R) → Up rs → Up (filter p rs)
  up_kept p [] u = tt
  up_kept p (r ∷ rs) u = cond_both (p r) (r ∷ filter p rs) (filter p rs) Up (λ _. (all_kept_by p (λ s. at r < at s) rs u.0, up_kept p rs u.1)) (λ _. up_kept p rs u.1)

  up_around : (xs ys : List R) (r : R) → Up xs → Up ys → All (λ x. at x < at r) xs → All (λ y. at r < at y) ys → Up (xs ++ r ∷ ys)
  up_around [] ys r u w a b = (b, w)
  up_around (x ∷ xs) ys r u w a b = (
    All-append (λ s. at x < at s) xs (r ∷ ys) u.0 (a.0, All-weaker (λ y. at r < at y) (λ y. at x < at y) (λ y h. omega (arith, a.0)) ys b),
    up_around xs ys r u.1 w a.1 b,
  )

  kept_by_rises : (p : R → Bool) (rs : List R) → Ascending at rs → Ascending at (filter p rs)
  kept_by_rises p rs asc = ascending_from (filter p rs) (up_kept p rs (up_from rs asc))

  pub kept_rises : (p : ℕ → Bool) (rs : List R) → Ascending at rs → Ascending at (kept at p rs)
  unfolding kept
  kept_rises p rs asc = kept_by_rises (λ r. p (at r)) rs asc

  pub without_rises : (v : ℕ) (rs : List R) → Ascending at rs → Ascending at (without at v rs)
  unfolding without
  without_rises v rs asc = kept_by_rises (λ r. not (eqb (at r) v)) rs asc

  pub with_row_rises : (r : R) (rs : List R) → Ascending at rs → Ascending at (with_row at r rs)
  unfolding with_row
  with_row_rises r rs asc =
      let u = up_from rs asc in
      ascending_from (with_row at r rs) (up_around (below at (at r) rs) (beyond at (at r) rs) r (up_kept (λ s. ltb (at s) (at r)) rs u) (up_kept (λ s. ltb (at r) (at s)) rs u)
      (All-weaker (λ s. ltb (at s) (at r) ≡ true) (λ s. at s < at r) (λ s h. ltb-true (at s) (at r) h) (below at (at r) rs) (kept_by_passes (λ s. ltb (at s) (at r)) rs))
      (All-weaker (λ s. ltb (at r) (at s) ≡ true) (λ s. at r < at s) (λ s h. ltb-true (at r) (at s) h) (beyond at (at r) rs) (kept_by_passes (λ s. ltb (at r) (at s)) rs)))

  -- so do the first of them
  pub fewer_rise : (len : ℕ) (rows : List R) → Ascending at (take len rows) → (n : ℕ) → n ≤ len → Ascending at (take n rows)
  fewer_rise len rows asc n le i j ij jl =
      let l = length-take n rows in
      let m = length-take len rows in
      let first = λ (k : ℕ) (h : k < n). ap (λ vs. get_or vs k 0) (sym (take-map at n rows)) ∙ get_or-take n (views at rows) k 0 h in
      let all = λ (k : ℕ) (h : k < len). ap (λ vs. get_or vs k 0) (sym (take-map at len rows)) ∙ get_or-take len (views at rows) k 0 h in
      omega (arith, first i (omega arith), first j (omega arith), all i (omega arith), all j (omega arith), asc i j ij (omega arith))
