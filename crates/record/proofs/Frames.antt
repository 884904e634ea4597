-- A record's bytes, field after field.
use Rattle.std.proofs.Common.{◌≡◌, ℕ, ◌+◌, ◌-◌, ◌<◌, List, [], ◌∷◌, ◌++◌, length, get_or, take, drop, replicate, sym, refl, ap, ◌∙◌, arith, take-append-drop}
use Rattle.std.proofs.lemmas.List.{append_assoc, append-nil, drop-drop, drop_at, drop_more, drop-replicate, take_at, take_all, length-append, length-drop}
use Rattle.record.specs.Numbers.{part}

-- bytes from one place on are a part and what follows it
split : (at n m : ℕ) (bs : List ℕ) → at + n ≡ m → part at n bs ++ drop m bs ≡ drop at bs
split at n m bs e = ap (λ rest. part at n bs ++ rest) (ap (λ k. drop k bs) (sym e) ∙ sym (drop-drop n at bs)) ∙ take-append-drop n (drop at bs)

-- the fields after the first eight bytes, put together again
pub joined : (rest e v p d s : List ℕ) → length rest ≡ 88 → e ≡ part 0 8 rest → v ≡ part 8 8 rest → p ≡ part 16 8 rest → d ≡ part 24 32 rest → s ≡ part 56 32 rest → e ++ (v ++ (p ++ (d ++ s))) ≡ rest
joined rest e v p d s n ee ve pe de se =
    let last : s ≡ drop 56 rest = se ∙ take_all 32 (drop 56 rest) (omega (arith, length-drop 56 rest)) in
    let f4 = split 24 32 56 rest refl in
    let f3 = split 16 8 24 rest refl in
    let f2 = split 8 8 16 rest refl in
    let f1 = split 0 8 8 rest refl in
    cc

-- the first eight bytes, put together with the others again
pub headed : (bs : List ℕ) (b : ℕ) → 0 < length bs → get_or bs 0 0 ≡ b → part 1 7 bs ≡ replicate 7 0 → b ∷ (replicate 7 0 ++ drop 8 bs) ≡ bs
headed bs b some first zeros =
    let f1 = split 1 7 8 bs refl in
    let f0 = drop_more bs 0 0 some in
    cc

-- what follows a field, and the field after it
after : (at n m : ℕ) (bs a rest : List ℕ) → drop at bs ≡ a ++ rest → length a ≡ n → at + n ≡ m → (part at n bs ≡ a) × (drop m bs ≡ rest)
after at n m bs a rest e l s = (
  ap (take n) e ∙ take_at a rest n l,
  ap (λ k. drop k bs) (sym s) ∙ sym (drop-drop n at bs) ∙ ap (drop n) e ∙ drop_at a rest n l,
)

-- each field of bytes that were put together
pub record Parted (bs e v p d s : List ℕ) : Type 0 where
  pub epoch : part 0 8 bs ≡ e
  pub view : part 8 8 bs ≡ v
  pub parent : part 16 8 bs ≡ p
  pub payload : part 24 32 bs ≡ d
  pub proof : part 56 32 bs ≡ s

pub parted : (e v p d s : List ℕ) → length e ≡ 8 → length v ≡ 8 → length p ≡ 8 → length d ≡ 32 → length s ≡ 32 → Parted (e ++ (v ++ (p ++ (d ++ s)))) e v p d s
parted e v p d s le lv lp ld ls =
    let bs = e ++ (v ++ (p ++ (d ++ s))) in
    let f1 = after 0 8 8 bs e (v ++ (p ++ (d ++ s))) refl le refl in
    let f2 = after 8 8 16 bs v (p ++ (d ++ s)) f1.1 lv refl in
    let f3 = after 16 8 24 bs p (d ++ s) f2.1 lp refl in
    let f4 = after 24 32 56 bs d s f3.1 ld refl in
    record { epoch = f1.0; view = f2.0; parent = f3.0; payload = f4.0; proof = ap (take 32) f4.1 ∙ take_all 32 s (omega arith) }

-- a field is put behind what stands already, over zeros
put_next : (p x xs : List ℕ) (at m n : ℕ) → xs ≡ p ++ replicate m 0 → length p ≡ at → length x + n ≡ m → take at xs ++ (x ++ drop (at + length x) xs) ≡ (p ++ x) ++ replicate n 0
put_next p x xs at m n e l s =
    let kept = ap (take at) e ∙ take_at p (replicate m 0) at l in
    let past = sym (drop-drop (length x) at xs) ∙ ap (λ ys. drop (length x) (drop at ys)) e ∙ ap (drop (length x)) (drop_at p (replicate m 0) at l) ∙ drop-replicate (length x) m 0 in
    let left : m - length x ≡ n = omega arith in
    let rest = ap (λ k. replicate {A = ℕ} k 0) left in
    let same = append_assoc p x (replicate n 0) in
    cc

regrouped : (e v p d s : List ℕ) → ((((e ++ v) ++ p) ++ d) ++ s) ++ [] ≡ e ++ (v ++ (p ++ (d ++ s)))
regrouped e v p d s = append-nil ((((e ++ v) ++ p) ++ d) ++ s) ∙ simp append_assoc

-- all fields put one after the other
pub assembled : (k b : ℕ) (e v p d s x1 x2 x3 x4 x5 : List ℕ) → k ≡ b → length e ≡ 8 → length v ≡ 8 → length p ≡ 8 → length d ≡ 32 → length s ≡ 32 → x1 ≡ (k ∷ replicate 7 0) ++ (e ++ replicate 80 0) → x2 ≡ take 16 x1 ++ (v ++ drop 24 x1) → x3 ≡ take 24 x2 ++ (p ++ drop 32 x2) → x4 ≡ take 32 x3 ++ (d ++ drop (32 + length d) x3) → x5 ≡ take 64 x4 ++ (s ++ drop (64 + length s) x4) → x5 ≡ b ∷ (replicate 7 0 ++ (e ++ (v ++ (p ++ (d ++ s)))))
assembled k b e v p d s x1 x2 x3 x4 x5 kb le lv lp ld ls e1 e2 e3 e4 e5 =
    let head = k ∷ replicate 7 0 in
    let f1 : x1 ≡ (head ++ e) ++ replicate 80 0 = e1 ∙ sym (append_assoc head e (replicate 80 0)) in
    let n2 = ap (λ n. take 16 x1 ++ (v ++ drop (16 + n) x1)) (sym lv) in
    let f2 = e2 ∙ n2 ∙ put_next (head ++ e) v x1 16 80 72 f1 (simp length-append (omega arith)) (omega arith) in
    let n3 = ap (λ n. take 24 x2 ++ (p ++ drop (24 + n) x2)) (sym lp) in
    let f3 = e3 ∙ n3 ∙ put_next ((head ++ e) ++ v) p x2 24 72 64 f2 (simp length-append (omega arith)) (omega arith) in
    let f4 = e4 ∙ put_next (((head ++ e) ++ v) ++ p) d x3 32 64 32 f3 (simp length-append (omega arith)) (omega arith) in
    let f5 = e5 ∙ put_next ((((head ++ e) ++ v) ++ p) ++ d) s x4 64 32 0 f4 (simp length-append (omega arith)) (omega arith) in
    f5 ∙ (λ i. kb i ∷ (replicate 7 0 ++ regrouped e v p d s i))
