-- The bytes at the front that are in a class.
use Rattle.std.proofs.Common.{◌≡◌, ℕ, suc, ◌&&◌, ◌+◌, ◌<◌, Bool, true, false, not, cond, eqb, ltb, List, [], ◌∷◌, length, Some, None, refl, ap, ◌∙◌, arith}
use Rattle.std.specs.List.{list_all, prefix_len, position, position_or_len}
use Rattle.std.specs.Option.{unwrap_or}
use Rattle.std.proofs.lemmas.Grind.{common_steps}
use Rattle.std.proofs.lemmas.List.Sums.{prefix_len-le-length}
use Rattle.words.specs.Classes.{every}

not_fails_at : (t : Bool) (m n : ℕ) → m ≡ n → cond (not (not t)) (1 + m) 0 ≡ cond t (1 + n) 0
not_fails_at true m n e = ap (λ k. 1 + k) e
not_fails_at false m n e = refl

not_fails : (p : ℕ → Bool) (bs : List ℕ) → position_or_len (λ b. not (p b)) bs ≡ prefix_len p bs
not_fails p [] = refl
not_fails p (b ∷ bs) = not_fails_at (p b) _ _ (not_fails p bs)

-- a place below the length, or the length
place : (n len : ℕ) → n < len + 1 → unwrap_or (cond (ltb n len) (Some n) None) len ≡ n
place n len h = grind (arith, common_steps)

-- the place of the first byte outside, or the length
pub first_outside : (p : ℕ → Bool) (bs : List ℕ) → unwrap_or (position (λ b. not (p b)) bs) (length bs) ≡ prefix_len p bs
first_outside p bs = place _ _ (omega (arith, prefix_len-le-length (λ b. not (not (p b))) bs)) ∙ not_fails p bs

all_at : (t r : Bool) (m len : ℕ) → r ≡ eqb m len → (t && r) ≡ eqb (cond t (1 + m) 0) (suc len)
all_at true r m len e = grind arith
all_at false r m len e = grind arith

pub all_inside : (p : ℕ → Bool) (bs : List ℕ) → list_all p bs ≡ every p bs
all_inside p [] = refl
all_inside p (b ∷ bs) = all_at (p b) (list_all p bs) (prefix_len p bs) (length bs) (all_inside p bs)
