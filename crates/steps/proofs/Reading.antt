-- Steps that can be read.
use Rattle.std.proofs.Common.{◌≡◌, ℕ, zero, suc, ◌+◌, ◌-◌, ◌*◌, ◌<◌, true, List, length, take, drop, is_ok, Ok, ap, inl, inr, ◌∙◌, add-one, arith, length-drop}
use Rattle.std.proofs.Math.Nat.{eq-or-lt_of_le}
use Rattle.std.proofs.lemmas.Bool.{and_parts, and_from}
use Rattle.std.proofs.lemmas.List.{take_all}
use Rattle.steps.specs.Format.{step_of, step_bytes, readable}
use Rattle.steps.specs.declared.step.Step.{Step}

pub readable-more : (n : ℕ) (bs : List ℕ) (s : Step) → readable n bs ≡ true → step_of (step_bytes n bs) ≡ Ok s → readable (n + 1) bs ≡ true
unfolding readable
readable-more n bs s before reads = rw add-one (and_from (readable n bs) (is_ok (step_of (step_bytes n bs))) before (ap (λ r. is_ok r) reads))

-- each of the first n steps
pub readable-at : (n i : ℕ) (bs : List ℕ) → i < n → readable n bs ≡ true → is_ok (step_of (step_bytes i bs)) ≡ true
unfolding readable
readable-at zero i bs h all = absurd (omega arith)
readable-at (suc n) i bs h all =
    let parts = and_parts (readable n bs) (is_ok (step_of (step_bytes n bs))) all in
    elim (eq-or-lt_of_le {n = i} {m = n} (omega arith)) [
      | inl same ↦ ap (λ k. is_ok (step_of (step_bytes k bs))) same ∙ parts.1
      | inr below ↦ readable-at n i bs below parts.0
    ]

-- all that follows a header
pub rest_is : (bs : List ℕ) → take (length bs - 32) (drop 32 bs) ≡ drop 32 bs
rest_is bs = take_all (length bs - 32) (drop 32 bs) (omega (arith, length-drop 32 bs))

-- the 24 bytes of a step
pub slice_at : (i : ℕ) (bs : List ℕ) → take (24 * i + 24 - 24 * i) (drop (24 * i) bs) ≡ step_bytes i bs
slice_at i bs = let length_is : 24 * i + 24 - 24 * i ≡ 24 = omega arith in ap (λ n. take n (drop (24 * i) bs)) length_is
