-- Looking at the row in the middle leaves half of the rows.
use Rattle.std.proofs.Common.{◌≡◌, ℕ, ◌+◌, ◌-◌, ◌/◌, ◌<◌, ◌≤◌, Bool, true, false, cond, List, length, get_or, sym, ◌∙◌, inl, inr, arith}
use Rattle.std.proofs.lemmas.Bool.{cases_Bool, true≢false}
use Rattle.table.specs.Rows.{views, Ascending, Parts}
use Rattle.table.specs.Searching.{Between}
use Rattle.table.proofs.Placing.{rises}

module _ {R : Type 0} (at : R → ℕ) (p : ℕ → Bool) (up : (u v : ℕ) → u ≤ v → p u ≡ true → p v ≡ true) (rs : List R) (asc : Ascending at rs) where
  kept_above : (i k : ℕ) → i ≤ k → k < length rs → p (get_or (views at rs) i 0) ≡ true → p (get_or (views at rs) k 0) ≡ true
  kept_above i k le h t = up _ _ (rises at rs asc i k le h) t

  dropped_below : (i k : ℕ) → k ≤ i → i < length rs → p (get_or (views at rs) i 0) ≡ false → p (get_or (views at rs) k 0) ≡ false
  dropped_below i k le h f = elim (cases_Bool (p (get_or (views at rs) k 0))) [
    | inl t ↦ absurd (true≢false (sym (kept_above k i le h t) ∙ f))
    | inr n ↦ n
  ]

  -- `b` tells whether the row in the middle is kept
  pub halved : (from size : ℕ) (b : Bool) → p (get_or (views at rs) (from + size / 2) 0) ≡ b → Between at p rs from size → Between at p rs (cond b from (from + size / 2)) (size - size / 2)
  halved from size true t q =
      let some = q.some in
      let within = q.within in
      record {
        some = omega arith;
        within = omega arith;
        before = q.before;
        after = λ k le h. kept_above (from + size / 2) k (omega arith) h t;
      }
  halved from size false f q =
      let some = q.some in
      let within = q.within in
      record {
        some = omega arith;
        within = omega arith;
        before = λ k lt. dropped_below (from + size / 2) k (omega arith) (omega arith) f;
        after = λ k le h. q.after k (omega arith) h;
      }

  -- of one row it is told where it stands
  pub parted : (from : ℕ) (b : Bool) → p (get_or (views at rs) from 0) ≡ b → Between at p rs from 1 → Parts at p rs (cond b from (from + 1))
  parted from true t q =
      let within = q.within in
      record {
        within = omega arith;
        before = q.before;
        after = λ k le h. kept_above from k le h t;
      }
  parted from false f q =
      let within = q.within in
      record {
        within = omega arith;
        before = λ k lt. dropped_below from k (omega arith) (omega arith) f;
        after = λ k le h. q.after k le h;
      }

  -- where the last row is not kept, none is
  pub none_kept : 0 < length rs → p (get_or (views at rs) (length rs - 1) 0) ≡ false → Parts at p rs (length rs)
  none_kept some f = record {
    within = omega arith;
    before = λ k lt. dropped_below (length rs - 1) k (omega arith) (omega arith) f;
    after = λ k le h. absurd (omega arith);
  }
