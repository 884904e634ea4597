-- A mask with no bit at a place or above.
use Rattle.std.proofs.Common.{◌≡◌, ℕ, ◌/◌, ◌^◌, ◌<◌, inl, inr, arith}
use Rattle.std.specs.Prelude.{nat_eq, nat_lt}
use Rattle.std.proofs.lemmas.Bool.{cases_lt, lt-ltb, le-ltb, eq-eqb, ne_eqb}
use Rattle.std.proofs.lemmas.Nat.{pow_pos, div_below, le-div}

below_shift : (m d : ℕ) → 0 < d → nat_eq (m / d) 0 ≡ nat_lt m d
below_shift m d p = elim (cases_lt m d) [
  | inl h ↦ rw (lt-ltb m d h) (eq-eqb (m / d) 0 (omega (arith, div_below m d 1 p (omega arith))))
  | inr h ↦ rw (le-ltb m d h) (ne_eqb (m / d) 0 (λ e. omega (arith, e, le-div 1 m d p (omega arith))))
]

pub shifted_out : (m n : ℕ) → nat_eq (m / 2 ^ n) 0 ≡ nat_lt m (2 ^ n)
shifted_out m n = below_shift m (2 ^ n) (pow_pos n)
