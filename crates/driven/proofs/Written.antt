-- Rows that are written one after the other, and what a filter leaves.
use Rattle.std.proofs.Common.{◌≡◌, ℕ, zero, suc, ◌+◌, ◌<◌, ◌≤◌, Bool, not, List, [], ◌∷◌, ◌++◌, map, length, get_or, set, take, drop, filter, sym, subst, refl, ap, ◌∙◌, arith}
use Rattle.std.proofs.lemmas.List.Filters.{length-filter_both}

module _ {X Y : Type 0} (f : X → Y) where
  written_suc : (es : List X) (ys : List Y) (i : ℕ) (d : X) → i < length es → i < length ys → set (map f (take i es) ++ drop i ys) i (f (get_or es i d)) ≡ map f (take (suc i) es) ++ drop (suc i) ys
  written_suc [] ys i d h l = absurd (omega arith)
  written_suc (e ∷ es) [] i d h l = absurd (omega arith)
  written_suc (e ∷ es) (y ∷ ys) zero d h l = refl
  written_suc (e ∷ es) (y ∷ ys) (suc i) d h l = ap (λ xs. f e ∷ xs) (written_suc es ys i d (omega arith) (omega arith))

  pub written_more : (es : List X) (ys now : List Y) (i : ℕ) (d : X) (y : Y) → i < length es → i < length ys → now ≡ map f (take i es) ++ drop i ys → y ≡ f (get_or es i d) → set now i y ≡ map f (take (i + 1) es) ++ drop (i + 1) ys
  written_more es ys now i d y h l e q =
      let one : suc i ≡ i + 1 = omega arith in
      let here : set now i (f (get_or es i d)) ≡ map f (take (suc i) es) ++ drop (suc i) ys = subst (λ xs. set xs i (f (get_or es i d)) ≡ map f (take (suc i) es) ++ drop (suc i) ys) (sym e) (written_suc es ys i d h l) in
      ap (set now i) q ∙ (here ∙ ap (λ n. map f (take n es) ++ drop n ys) one)

pub fewer : {X : Type 0} (p : X → Bool) (xs : List X) → length (filter p xs) ≤ length xs
fewer p xs = let e = length-filter_both p (λ x. not (p x)) (λ _. refl) xs in omega arith
