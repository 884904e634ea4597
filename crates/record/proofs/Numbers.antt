-- Numbers and their bytes, both ways.
use Rattle.std.proofs.Common.{◌≡◌, ℕ, zero, suc, ◌+◌, ◌*◌, ◌/◌, ◌%◌, ◌^◌, ◌<◌, true, eqb, List, [], ◌∷◌, ◌++◌, length, get_or, replicate, sym, refl, ap, ◌∙◌, append_assoc, append-nil, add-zero, div-lt_iff_lt-mul, pow-suc, zero-add, arith, w8, Fits}
use native.Mathlib.Nat.{div-div-eq-div-mul}
use Rattle.std.specs.Int.Digits.{number_from_digits_after, AllBelowBase}
use Rattle.std.proofs.lemmas.Int.Digits.{number_push}
use Rattle.std.proofs.lemmas.List.{length_push}
use Rattle.std.proofs.lemmas.Bool.{eqb-true, and_parts}
use Rattle.record.specs.Numbers.{number, bytes_of, zeros}

pub length_bytes : (k n : ℕ) → length (bytes_of k n) ≡ k
unfolding bytes_of
length_bytes zero n = refl
length_bytes (suc k) n = length_push (bytes_of k (n / 256)) (n % 256) ∙ omega (arith, length_bytes k (n / 256))

bytes_push : (k m d : ℕ) → d < 256 → bytes_of (suc k) (m * 256 + d) ≡ bytes_of k m ++ (d ∷ [])
unfolding bytes_of
bytes_push k m d h =
    let q : (m * 256 + d) / 256 ≡ m = omega arith in
    let r : (m * 256 + d) % 256 ≡ d = omega arith in
    rw (q, r)

bytes_after : (ds : List ℕ) (k m : ℕ) → AllBelowBase 256 ds → bytes_of (length ds + k) (number_from_digits_after 256 m ds) ≡ bytes_of k m ++ ds
bytes_after [] k m u = ap (λ n. bytes_of n m) (zero-add k) ∙ sym (append-nil (bytes_of k m))
bytes_after (d ∷ ds) k m u =
    let n : suc (length ds) + k ≡ length ds + suc k = omega arith in
    ap (λ j. bytes_of j (number_from_digits_after 256 (m * 256 + d) ds)) n ∙ bytes_after ds (suc k) (m * 256 + d) u.1 ∙ ap (λ bs. bs ++ ds) (bytes_push k m d u.0) ∙ append_assoc (bytes_of k m) (d ∷ []) ds

under_from_fits : (ds : List ℕ) → ((i : ℕ) → Fits w8 (get_or ds i 0)) → AllBelowBase 256 ds
under_from_fits [] f = tt
under_from_fits (d ∷ ds) f = ((f 0).fits, under_from_fits ds (λ i. f (suc i)))

-- the bytes of the number that bytes write
pub bytes_number : (ds : List ℕ) → ((i : ℕ) → Fits w8 (get_or ds i 0)) → bytes_of (length ds) (number ds) ≡ ds
unfolding bytes_of
bytes_number ds f = ap (λ n. bytes_of n (number ds)) (sym (add-zero (length ds))) ∙ bytes_after ds 0 0 (under_from_fits ds f)

-- the number that a number's bytes write
pub number_bytes : (k n : ℕ) → n < 256 ^ k → number (bytes_of k n) ≡ n
unfolding bytes_of
number_bytes zero n h = omega arith
number_bytes (suc k) n h =
    let p = pow-suc 256 k in
    let q : n / 256 < 256 ^ k = (div-lt_iff_lt-mul {k = 256} (omega arith)).1 (omega arith) in
    number_push 256 (bytes_of k (n / 256)) (n % 256) ∙ omega (arith, number_bytes k (n / 256) q)

-- zeros are what `replicate` makes
pub zeros_are : (bs : List ℕ) → zeros bs ≡ true → bs ≡ replicate (length bs) 0
zeros_are [] z = refl
zeros_are (b ∷ bs) z =
    let p = and_parts (eqb b 0) (zeros bs) z in
    let e = eqb-true b 0 p.0 in
    let r = zeros_are bs p.1 in
    cc

-- the eight bytes of a number, as quotients
pub bytes_eight : (n : ℕ) → bytes_of 8 n ≡ n / 72057594037927936 % 256 ∷ n / 281474976710656 % 256 ∷ n / 1099511627776 % 256 ∷ n / 4294967296 % 256 ∷ n / 16777216 % 256 ∷ n / 65536 % 256 ∷ n / 256 % 256 ∷ n % 256 ∷ []
unfolding bytes_of
bytes_eight n = simp div-div-eq-div-mul
