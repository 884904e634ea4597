-- Pairs of hex digits.
use Rattle.std.proofs.Common.{◌≡◌, ℕ, zero, suc, ◌+◌, ◌*◌, ◌/◌, List, [], ◌∷◌, map, length, get_or, refl, ap, arith}
use Rattle.std.specs.Simd.{first_chunks}
use Rattle.words.specs.Hex.{nibble_of, decoded}

-- the byte that a pair writes
abbrev pub pair_byte : List ℕ → ℕ
pair_byte p = nibble_of (get_or p 0 0) * 16 + nibble_of (get_or p 1 0)

pub decoded_pairs : (n : ℕ) (cs : List ℕ) → n ≡ length cs / 2 → map pair_byte (first_chunks 2 n cs) ≡ decoded cs
decoded_pairs zero [] e = refl
decoded_pairs zero (a ∷ []) e = refl
decoded_pairs zero (a ∷ b ∷ cs) e = absurd (omega arith)
decoded_pairs (suc n) [] e = absurd (omega arith)
decoded_pairs (suc n) (a ∷ []) e = absurd (omega arith)
decoded_pairs (suc n) (a ∷ b ∷ cs) e = ap (λ r. (nibble_of a * 16 + nibble_of b) ∷ r) (decoded_pairs n cs (omega arith))
