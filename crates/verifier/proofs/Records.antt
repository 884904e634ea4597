-- A record that is one of the first of a roll is one of more.
use Rattle.std.proofs.Common.{◌≡◌, ℕ, zero, suc, ◌+◌, ◌*◌, ◌<◌, true, false, List, refl, sym, ap, ◌∙◌, inl, inr, arith}
use Rattle.std.specs.Str.{bytes_eq}
use Rattle.std.proofs.lemmas.Bool.{cases_Bool, cases_eq}
use Rattle.record.specs.Numbers.{part}
use Rattle.verifier.specs.Rolls.{rolled}

pub rolled_since : (bs roll : List ℕ) (k n : ℕ) → k < n → bytes_eq (part (96 * k) 96 roll) bs ≡ true → rolled bs n roll ≡ true
unfolding rolled
rolled_since bs roll k zero h e = absurd (omega arith)
rolled_since bs roll k (suc n) h e = elim (cases_eq k n) [
  | inl q ↦ let here : bytes_eq (part (96 * n) 96 roll) bs ≡ true = ap (λ i. bytes_eq (part (96 * i) 96 roll) bs) (sym q) ∙ e in rw here refl
  | inr m ↦ elim (cases_Bool (bytes_eq (part (96 * n) 96 roll) bs)) [ inl t ↦ rw t refl | inr f ↦ rw f (rolled_since bs roll k n (omega (arith, m)) e) ]
]

next : (bs roll : List ℕ) (k : ℕ) → rolled bs k roll ≡ false → bytes_eq (part (96 * k) 96 roll) bs ≡ false → rolled bs (suc k) roll ≡ false
unfolding rolled
next bs roll k r f = rw f r

pub rolled_not : (bs roll : List ℕ) (k : ℕ) → rolled bs k roll ≡ false → bytes_eq (part (96 * k) 96 roll) bs ≡ false → rolled bs (k + 1) roll ≡ false
rolled_not bs roll k r f = let one : k + 1 ≡ suc k = omega arith in ap (λ n. rolled bs n roll) one ∙ next bs roll k r f

pub rolled_none : (bs roll : List ℕ) → rolled bs 0 roll ≡ false
unfolding rolled
rolled_none bs roll = refl
