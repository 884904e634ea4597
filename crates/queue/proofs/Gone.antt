-- What is left in front where the first of a list were given away.
use Rattle.std.proofs.Common.{◌≡◌, ℕ, ◌+◌, ◌-◌, ◌<◌, ◌≤◌, List, ◌++◌, length, take, drop, set, get_or, sym, ap, ◌∙◌, arith, length-drop, length-take, length-append}
use Rattle.std.proofs.lemmas.List.{drop-take, drop-drop, drop-set-lt, get_or-drop, take-append-le, take_all}
use Rattle.std.proofs.lemmas.List.Edits.{paste_more}

cut : {X : Type 0} (xs : List X) (i j : ℕ) → i ≤ j → drop i (take j xs) ≡ take (j - i) (drop i xs)
cut xs i j h =
    let whole : i + (j - i) ≡ j = omega arith in
    let behind : drop i (take (i + (j - i)) xs) ≡ take (j - i) (drop i xs) = drop-take i (j - i) xs in
    rw whole at behind

pub left : {X : Type 0} (now old turned : List X) (i j : ℕ) → i ≤ j → j ≤ length now → drop i now ≡ drop i old → turned ≡ drop i (take j now) ++ take i (take j now) → take (j - i) (turned ++ drop j now) ≡ drop i (take j old)
left now old turned i j h l same is =
    let front = drop i (take j now) in
    let back = take i (take j now) in
    let long : length (drop i (take j now)) ≡ j - i = omega (arith, length-drop i (take j now), length-take j now) in
    let all : take (j - i) (front ++ back) ≡ front = take-append-le (j - i) front back (omega (arith, long)) ∙ take_all (j - i) front (omega (arith, long)) in
    let shown : take (j - i) ((front ++ back) ++ drop j now) ≡ take (j - i) (front ++ back) = take-append-le (j - i) (front ++ back) (drop j now) (omega (arith, long, length-append front back)) in
    ap (λ t. take (j - i) (t ++ drop j now)) is ∙ shown ∙ all ∙ cut now i j h ∙ ap (take (j - i)) same ∙ sym (cut old i j h)

-- one more message that goes over
pub rest_more : {X : Type 0} (now old : List X) (i : ℕ) (y : X) → drop i now ≡ drop i old → drop (i + 1) (set now i y) ≡ drop (i + 1) old
rest_more now old i y same = drop-set-lt (i + 1) now i y (omega arith) ∙ sym (drop-drop 1 i now) ∙ ap (drop 1) same ∙ drop-drop 1 i old

same_next : {X : Type 0} (now old : List X) (i : ℕ) (d : X) → drop i now ≡ drop i old → get_or now i d ≡ get_or old i d
same_next now old i d same = grind (arith, ap (λ l. get_or l 0 d) same, get_or-drop)

pub list_more : {X : Type 0} (list into now old : List X) (at i : ℕ) (x y : X) → into ≡ take at list ++ take i old ++ drop (at + i) list → drop i now ≡ drop i old → at + i < length list → i < length old → x ≡ get_or now i y → set into (at + i) x ≡ take at list ++ take (i + 1) old ++ drop (at + (i + 1)) list
list_more list into now old at i x y is same room more from =
    ap (λ l. set l (at + i) x) is ∙ ap (set (take at list ++ take i old ++ drop (at + i) list) (at + i)) (from ∙ same_next now old i y same) ∙ paste_more list at old i y room more
