-- The mask of the lowest bits.
use Rattle.std.proofs.Common.{◌≡◌, ℕ, ◌+◌, ◌-◌, ◌*◌, ◌/◌, ◌^◌, ◌≤◌, sym, ap, ◌∙◌, mul_comm, arith}
use Rattle.std.proofs.Math.Nat.{mul-add}
use Rattle.std.proofs.lemmas.Nat.{div-mul-add, pow-add, pow_pos}

-- all 64 bits shifted down until q are left
pub lowest : (q : ℕ) → q ≤ 64 → 18446744073709551615 / 2 ^ (64 - q) + 1 ≡ 2 ^ q
lowest q h =
    let d = 2 ^ (64 - q) in
    let e = 2 ^ q - 1 in
    let one : e + 1 ≡ 2 ^ q = omega (arith, pow_pos q) in
    let exponent : q + (64 - q) ≡ 64 = omega arith in
    let whole : 2 ^ q * d ≡ 18446744073709551616 = sym (pow-add 2 q (64 - q)) ∙ ap (λ n. 2 ^ n) exponent in
    let last : d * e + d * 1 ≡ 18446744073709551616 = sym (mul-add d e 1) ∙ ap (λ n. d * n) one ∙ mul_comm d (2 ^ q) ∙ whole in
    let parts : 18446744073709551615 ≡ e * d + (d - 1) = omega (arith, last, mul_comm d e, pow_pos (64 - q)) in
    ap (λ n. n / d + 1) parts ∙ ap (λ n. n + 1) (div-mul-add e d (d - 1) (omega (arith, pow_pos (64 - q)))) ∙ one
