-- Numbers that digits write.
use Rattle.std.proofs.Common.{◌≡◌, ℕ, ◌+◌, ◌-◌, ◌*◌, ◌^◌, ◌<◌, ◌≤◌, Bool, true, false, cond, ltb, List, [], ◌∷◌, length, get_or, drop, Some, None, Ok, Err, Option, sym, ap, ◌∙◌, arith}
use Rattle.std.specs.Option.{ok_or}
use Rattle.std.proofs.lemmas.List.{at_drop_more}
use Rattle.std.proofs.lemmas.Bool.{cond-true, cond-false, lt-ltb, le-ltb}
use Rattle.words.specs.Numerals.{read_on}
use Rattle.words.specs.declared.problem.Problem.TheVariants.{OutOfRange}

-- further digits make no number smaller
read_on_ge : (n : ℕ) (cs : List ℕ) → n ≤ read_on n cs
read_on_ge n [] = omega arith
read_on_ge n (c ∷ cs) = omega (arith, read_on_ge (n * 10 + (c - 48)) cs)

-- one digit further on
pub read_on_more : (word : List ℕ) (n i v : ℕ) → i < length word → read_on n (drop i word) ≡ v → read_on (n * 10 + (get_or word i 0 - 48)) (drop (i + 1) word) ≡ v
read_on_more word n i v h e = sym (at_drop_more (read_on n) word i 0 h) ∙ e

-- what a number that fits is, and one that is too large by now
pub fits_so : (n v : ℕ) → n < 2 ^ 64 → n ≡ v → Some n ≡ cond (ltb v (2 ^ 64)) (Some v) None
fits_so n v h e = ap Some e ∙ sym (cond-true (ltb v (2 ^ 64)) (Some v) None (lt-ltb v (2 ^ 64) (omega arith)))

pub too_large : (n v : ℕ) (cs : List ℕ) → (n < 2 ^ 64 → ⊥) → read_on n cs ≡ v → cond (ltb v (2 ^ 64)) (Some v) None ≡ None
too_large n v cs h e = cond-false (ltb v (2 ^ 64)) (Some v) None (le-ltb v (2 ^ 64) (omega (arith, read_on_ge n cs)))

-- the answer for a word of digits, by what was read of it
pub read_as : (t : Bool) (o : Option ℕ) (v : ℕ) → o ≡ cond t (Some v) None → ok_or o OutOfRange ≡ cond t (Ok v) (Err OutOfRange)
read_as true o v e = ap (λ x. ok_or x OutOfRange) e
read_as false o v e = ap (λ x. ok_or x OutOfRange) e
