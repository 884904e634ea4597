-- Moves of a block of elements within a list.
use Rattle.std.proofs.Common.{◌≡◌, ℕ, zero, suc, ◌+◌, ◌-◌, ◌<◌, ◌≤◌, List, [], ◌∷◌, ◌++◌, length, get_or, take, drop, set, sym, refl, ap, ◌∙◌, zero-add, add-one, arith}
use Rattle.std.specs.List.{between, copy_within, insert, remove}
use Rattle.std.proofs.lemmas.List.Edits.{drop-paste, paste_more, paste_none, split_between, take-paste}
use Rattle.std.proofs.lemmas.List.{append_assoc, drop_more, get_or-drop, get_or-take, length-drop, take-take}
use Rattle.std.proofs.lemmas.Slice.{between_is}

-- up to the end of a block that moved stand the elements below its new place, and the block
pub moved : {X : Type 0} (xs : List X) (i j to : ℕ) → i ≤ j → j ≤ length xs → to ≤ length xs → take (to + (j - i)) (copy_within xs i j to) ≡ take to xs ++ between i j xs
moved xs i j to order within place = take-paste xs to (drop i xs) (j - i) place (omega (arith, length-drop i xs))

-- below its new place nothing changes
pub moved_above : {X : Type 0} (xs : List X) (i j to : ℕ) → i ≤ j → j ≤ length xs → to ≤ length xs → take to (copy_within xs i j to) ≡ take to xs
moved_above xs i j to order within place =
    sym (take-take to (to + (j - i)) (copy_within xs i j to) (omega arith)) ∙ ap (take to) (moved xs i j to order within place) ∙ front xs to (between i j xs) place
  where
    front : {X : Type 0} (xs : List X) (n : ℕ) (ys : List X) → n ≤ length xs → take n (take n xs ++ ys) ≡ take n xs
    front xs zero ys h = refl
    front [] (suc n) ys h = absurd (omega arith)
    front (x ∷ xs) (suc n) ys h = ap (λ zs. x ∷ zs) (front xs n ys (omega arith))

-- a block that moved down over one element cuts it out
pub cut_is : {X : Type 0} (xs : List X) (i len : ℕ) → i < len → len ≤ length xs → take (len - 1) (copy_within xs (i + 1) len i) ≡ remove (take len xs) i
cut_is xs i len h l =
    let n : len - 1 ≡ i + (len - (i + 1)) = omega arith in
    let back = between_is xs (i + 1) len ∙ ap (λ k. drop k (take len xs)) (add-one i) in
    ap (λ k. take k (copy_within xs (i + 1) len i)) n ∙ moved xs (i + 1) len i (omega arith) l (omega arith) ∙ (λ k. sym (take-take i len xs (omega arith)) k ++ back k)

-- a block that moved to the front cuts off what stood below it
pub cut_off_is : {X : Type 0} (xs : List X) (n len : ℕ) → n ≤ len → len ≤ length xs → take (len - n) (copy_within xs n len 0) ≡ drop n (take len xs)
cut_off_is xs n len h l = ap (λ k. take k (copy_within xs n len 0)) (sym (zero-add (len - n))) ∙ moved xs n len 0 h l (omega arith) ∙ between_is xs n len

-- what is set at the last of the first elements stands between those below it and the others
set_between : {X : Type 0} (xs : List X) (i : ℕ) (ys : List X) (y : X) → i < length xs → set (take (suc i) xs ++ ys) i y ≡ take i xs ++ y ∷ ys
set_between [] i ys y h = absurd (omega arith)
set_between (x ∷ xs) zero ys y h = refl
set_between (x ∷ xs) (suc i) ys y h = ap (λ zs. x ∷ zs) (set_between xs i ys y (omega arith))

pub take_set_any : {X : Type 0} (xs : List X) (n i : ℕ) (a : X) → take n (set xs i a) ≡ set (take n xs) i a
take_set_any xs zero i a = refl
take_set_any [] (suc n) i a = refl
take_set_any (x ∷ xs) (suc n) zero a = refl
take_set_any (x ∷ xs) (suc n) (suc i) a = ap (λ t. x ∷ t) (take_set_any xs n i a)

-- a block that moved up by one leaves a place for one element
pub put_is : {X : Type 0} (xs : List X) (i len : ℕ) (x : X) → i ≤ len → len < length xs → take (len + 1) (set (copy_within xs i len (i + 1)) i x) ≡ insert (take len xs) i x
put_is xs i len x h l =
    let n : len + 1 ≡ i + 1 + (len - i) = omega arith in
    let block = ap (λ k. take k (copy_within xs i len (i + 1))) n ∙ moved xs i len (i + 1) h (omega arith) (omega arith) ∙ ap (λ k. take k xs ++ between i len xs) (add-one i) in
    take_set_any (copy_within xs i len (i + 1)) (len + 1) i x ∙ ap (λ zs. set zs i x) block ∙ set_between xs i (between i len xs) x (omega arith) ∙ (λ k. sym (take-take i len xs h) k ++ x ∷ between_is xs i len k)

-- a block of no element moves nothing
pub move_none : {X : Type 0} (xs : List X) (i to : ℕ) → xs ≡ copy_within xs i i to
move_none xs i to =
    let n : 0 ≡ i - i = omega arith in
    paste_none xs to (drop i xs) ∙ ap (λ k. take to xs ++ take k (drop i xs) ++ drop (to + k) xs) n

-- a block that moves onto itself changes nothing
pub move_onto_itself : {X : Type 0} (xs : List X) (i j : ℕ) → i ≤ j → xs ≡ copy_within xs i j i
move_onto_itself xs i j order =
    let n : j ≡ i + (j - i) = omega arith in
    split_between xs i j order ∙ sym (append_assoc (take i xs) (between i j xs) (drop j xs)) ∙ ap (λ k. take i xs ++ between i j xs ++ drop k xs) n

-- above a block that moved down, each element is what it was
above_block : {X : Type 0} (xs : List X) (i j to k : ℕ) (d : X) → i ≤ j → j ≤ length xs → to ≤ i → j ≤ k → get_or (copy_within xs i j to) k d ≡ get_or xs k d
above_block {X} xs i j to k d order within place above =
    let n = to + (j - i) in
    let at : k ≡ n + (k - n) = omega arith in
    let read = λ (zs : List X). ap (λ m. get_or zs m d) at ∙ sym (get_or-drop n zs (k - n) d) in
    read (copy_within xs i j to) ∙ ap (λ zs. get_or zs (k - n) d) (drop-paste xs to (drop i xs) (j - i) (omega arith) (omega (arith, length-drop i xs))) ∙ sym (read xs)

-- one element more moves down
pub move_down_more : {X : Type 0} (old xs : List X) (from i by : ℕ) (x : X) → by ≤ from → from ≤ i → i < length old → xs ≡ copy_within old from i (from - by) → x ≡ get_or xs i x → set xs (i - by) x ≡ copy_within old from (i + 1) (from - by)
move_down_more old xs from i by x low order within so_far is =
    let to = from - by in
    let n = i - from in
    let place : i - by ≡ to + n = omega arith in
    let source : i ≡ from + n = omega arith in
    let next : n + 1 ≡ i + 1 - from = omega arith in
    let same = is ∙ ap (λ zs. get_or zs i x) so_far ∙ above_block old from i to i x order (omega arith) (omega arith) (omega arith) ∙ ap (λ k. get_or old k x) source ∙ sym (get_or-drop from old n x) in
    (λ k. set (so_far k) (place k) (same k)) ∙ paste_more old to (drop from old) n x (omega arith) (omega (arith, length-drop from old)) ∙ ap (λ k. take to old ++ take k (drop from old) ++ drop (to + k) old) next

-- one element more moves up
pub move_up_more : {X : Type 0} (old xs : List X) (m to : ℕ) (x : X) → m < to → to < length old → xs ≡ copy_within old (m + 1) to (m + 1 + 1) → x ≡ get_or xs m x → set xs (m + 1) x ≡ copy_within old m to (m + 1)
move_up_more {X} old xs m to x below within so_far is =
    let read = λ (zs : List X). sym (get_or-take (m + 1 + 1) zs m x (omega arith)) in
    let still = ap (take (m + 1 + 1)) so_far ∙ moved_above old (m + 1) to (m + 1 + 1) (omega arith) (omega arith) (omega arith) in
    let same = is ∙ read xs ∙ ap (λ zs. get_or zs m x) still ∙ sym (read old) in
    let above = take (to - (m + 1)) (drop (m + 1) old) in
    let end = m + 1 + 1 + (to - (m + 1)) in
    let place : m + 1 + 1 ≡ suc (m + 1) = omega arith in
    let count : suc (to - (m + 1)) ≡ to - m = omega arith in
    let ends : end ≡ m + 1 + (to - m) = omega arith in
    let block = ap (λ y. y ∷ above) same ∙ ap (take (suc (to - (m + 1)))) (sym (drop_more old m x (omega arith))) ∙ ap (λ k. take k (drop m old)) count in
    let before = so_far ∙ append_assoc (take (m + 1 + 1) old) above (drop end old) ∙ ap (λ k. take k old ++ (above ++ drop end old)) place in
    let after = set_between old (m + 1) (above ++ drop end old) x (omega arith) ∙ sym (append_assoc (take (m + 1) old) (x ∷ above) (drop end old)) in
    ap (λ zs. set zs (m + 1) x) before ∙ after ∙ (λ k. take (m + 1) old ++ block k ++ drop (ends k) old)
