-- What the asks in order of arrival tell of the asks in order.
use Rattle.std.proofs.Common.{◌≡◌, ℕ, zero, suc, ◌+◌, ◌-◌, ◌<◌, ◌≤◌, Bool, true, false, cond, not, eqb, ltb, List, [], ◌∷◌, ◌++◌, length, take, set, get_or, is_some, Some, None, filter, Option, sym, refl, ap, ◌∙◌, inl, inr, arith}
use Rattle.std.specs.List.{position, position_or_len}
use Rattle.std.proofs.lemmas.List.Quantifiers.{position-Some}
use Rattle.std.proofs.lemmas.Bool.{eqb-true, le-leb, lt-leb, cases_Bool, cases_lt, lt-ltb, le-ltb, not-true}
use Rattle.std.proofs.lemmas.List.{take_more, take_more_set}
use Rattle.std.proofs.lemmas.List.Filters.{length-filter_both}
use Rattle.std.proofs.Math.Seq.{take-set-lt}
use Rattle.board.specs.Asks.{is_background, lower_of, place, place_of}
use Rattle.board.specs.Boards.{backgrounds, ancestries, is_open, ancestry_full, requested, opened, counted, first_of}
use Rattle.board.specs.Sorting.{lookup, placed, sorted, distinct}
use Rattle.board.specs.declared.ask.Ask.{Ask}
use Rattle.board.specs.declared.ask.Ask.TheVariants.{Background, Ancestry}
use Rattle.board.specs.declared.open.Open.{Open}
use Rattle.effects.specs.declared.effect.Kind.{Kind}
use Rattle.effects.specs.declared.effect.Kind.TheVariants.{Nullification, Notarization}
use Rattle.board.proofs.Laws.{in_order, pushed, replaced, none_before, filtered, counted_alike, first_of_more}

-- an ask is found where one stands, and nowhere else
some_if : (b : Bool) (n : ℕ) → is_some (cond b (Some n) None) ≡ b
some_if true n = refl
some_if false n = refl

stands : (k : ℕ) (os : List Open) → ltb (position_or_len (λ o. eqb (place_of o) k) os) (length os) ≡ is_some (lookup k os)
unfolding lookup
stands k [] = refl
stands k (o ∷ os) =
    let n = position_or_len (λ o. eqb (place_of o) k) os in
    elim (cases_Bool (eqb (place_of o) k)) [
      | inl t ↦ rw t (lt-ltb 0 (suc (length os)) (omega arith))
      | inr f ↦ rw f (elim (cases_lt n (length os)) [
        | inl h ↦ lt-ltb (1 + n) (suc (length os)) (omega arith) ∙ (sym (lt-ltb n (length os) h) ∙ stands k os)
        | inr h ↦ le-ltb (1 + n) (suc (length os)) (omega arith) ∙ (sym (le-ltb n (length os) h) ∙ stands k os)
      ])
    ]

pub found_by_position : (k : ℕ) (os : List Open) → is_some (position (λ o. eqb (place_of o) k) os) ≡ is_some (lookup k (sorted os))
found_by_position k os =
    some_if (ltb (position_or_len (λ o. eqb (place_of o) k) os) (length os)) (position_or_len (λ o. eqb (place_of o) k) os) ∙ (stands k os ∙ ap is_some (sym ((in_order os).1 k)))

-- the asks of the first places, with one more behind them
take_push : (o : Open) (list : List Open) (n : ℕ) → n < length list → take (n + 1) (set list n o) ≡ take n list ++ o ∷ []
take_push o list n h = take_more_set list n o h

-- how many there are of each sort, in all
pub both_sorts : (os : List Open) → length (backgrounds os) + length (ancestries os) ≡ length os
both_sorts os = length-filter_both (λ o. is_background o.ask) (λ o. not (is_background o.ask)) (λ _. refl) os

-- one more of a sort that has room
few_push : (p : Open → Bool) (o : Open) (os : List Open) (n : ℕ) → length (filter p os) ≤ n → (p o ≡ true → length (filter p os) < n) → length (filter p (os ++ o ∷ [])) ≤ n
few_push p o [] n h r = elim (cases_Bool (p o)) [ inl t ↦ rw t (r t) | inr f ↦ rw f h ]
few_push p o (x ∷ os) n h r = elim (cases_Bool (p x)) [
  | inl t ↦
      let own : suc (length (filter p os)) ≤ n = rw t at h in
      let less : length (filter p os) ≤ n - 1 = omega (arith, own) in
      let room : p o ≡ true → length (filter p os) < n - 1 = λ u. let k : suc (length (filter p os)) < n = rw t at (r u) in omega (arith, k) in
      rw t (omega (arith, few_push p o os (n - 1) less room, own))
  | inr f ↦ rw f (few_push p o os n (rw f at h) (λ u. rw f at (r u)))
]

-- what a board needs for one more
pub record Room (o : Open) (os : List Open) : Type 0 where
  pub absent : lookup (place_of o) os ≡ None
  pub background : is_background o.ask ≡ true → length (backgrounds os) < 256
  pub ancestry : is_background o.ask ≡ false → length (ancestries os) < 64

-- what holds of the asks of every board
pub record Kept (os : List Open) : Type 0 where
  pub apart : distinct os ≡ true
  pub background_few : length (backgrounds os) ≤ 256
  pub ancestry_few : length (ancestries os) ≤ 64

pub room_for : (o : Open) (os : List Open) → Kept os → Room o os → length os < 320
room_for o os k r = elim (cases_Bool (is_background o.ask)) [
  | inl t ↦ omega (arith, r.background t, k.ancestry_few, both_sorts os)
  | inr f ↦ omega (arith, r.ancestry f, k.background_few, both_sorts os)
]

pub kept_push : (o : Open) (os : List Open) → Kept os → Room o os → Kept (os ++ o ∷ [])
kept_push o os k r = record {
  apart = (pushed o os k.apart r.absent).1;
  background_few = few_push (λ x. is_background x.ask) o os 256 k.background_few r.background;
  ancestry_few = few_push (λ x. not (is_background x.ask)) o os 64 k.ancestry_few (λ t. r.ancestry (not-true (is_background o.ask) t));
}

pub pushed_list : (o : Open) (list : List Open) (n : ℕ) → n < length list → Kept (take n list) → Room o (take n list) → Kept (take (n + 1) (set list n o)) × (sorted (take (n + 1) (set list n o)) ≡ placed o (sorted (take n list)))
pushed_list o list n h k r = rw (take_push o list n h) (kept_push o (take n list) k r, (pushed o (take n list) k.apart r.absent).0)

-- asks at one place are of one sort
same_sort : (v w : ℕ) (a b : Ask) → place v a ≡ place w b → is_background a ≡ is_background b
same_sort v w Background Background e = refl
same_sort v w Background (Ancestry Nullification) e = absurd (omega (arith, e))
same_sort v w Background (Ancestry Notarization) e = absurd (omega (arith, e))
same_sort v w (Ancestry Nullification) Background e = absurd (omega (arith, e))
same_sort v w (Ancestry Notarization) Background e = absurd (omega (arith, e))
same_sort v w (Ancestry k) (Ancestry l) e = refl

same_count : (p : Open → Bool) (o : Open) (os : List Open) (i : ℕ) → i < length os → p (get_or os i o) ≡ p o → length (filter p (set os i o)) ≡ length (filter p os)
same_count p o [] i h e = absurd (omega arith)
same_count p o (x ∷ os) zero h e = elim (cases_Bool (p o)) [ inl t ↦ rw t (rw (e ∙ t) refl) | inr f ↦ rw f (rw (e ∙ f) refl) ]
same_count p o (x ∷ os) (suc i) h e = elim (cases_Bool (p x)) [ inl t ↦ rw t (ap suc (same_count p o os i (omega arith) e)) | inr f ↦ rw f (same_count p o os i (omega arith) e) ]

pub kept_set : (o : Open) (os : List Open) (i : ℕ) → Kept os → i < length os → place_of (get_or os i o) ≡ place_of o → Kept (set os i o) × (sorted (set os i o) ≡ placed o (sorted os))
kept_set o os i k h e =
    let x = get_or os i o in
    let sort : is_background x.ask ≡ is_background o.ask = same_sort x.view o.view x.ask o.ask e in
    let r = replaced o os i k.apart h e in
    let kept : Kept (set os i o) = record {
      apart = r.1;
      background_few = omega (arith, same_count (λ y. is_background y.ask) o os i h sort, k.background_few);
      ancestry_few = omega (arith, same_count (λ y. not (is_background y.ask)) o os i h (ap not sort), k.ancestry_few);
    } in
    (kept, r.0)

pub set_list : (o : Open) (list : List Open) (n i : ℕ) → Kept (take n list) → i < length (take n list) → i < n → place_of (get_or (take n list) i o) ≡ place_of o → Kept (take n (set list i o)) × (sorted (take n (set list i o)) ≡ placed o (sorted (take n list)))
set_list o list n i k h l e = rw (take-set-lt n list i o l) (kept_set o (take n list) i k h e)

-- those that stay are no more
few_filter : (p q : Open → Bool) (os : List Open) → length (filter p (filter q os)) ≤ length (filter p os)
few_filter p q [] = omega arith
few_filter p q (x ∷ os) =
    let more = few_filter p q os in
    elim (cases_Bool (q x)) [
      | inl t ↦ rw t (elim (cases_Bool (p x)) [ inl u ↦ rw u (omega (arith, more)) | inr v ↦ rw v more ])
      | inr f ↦ rw f (elim (cases_Bool (p x)) [ inl u ↦ rw u (omega (arith, more)) | inr v ↦ rw v more ])
    ]

pub kept_filter : (q : Open → Bool) (os : List Open) → Kept os → Kept (filter q os)
kept_filter q os k = record {
  apart = (filtered q os k.apart).1;
  background_few = omega (arith, few_filter (λ y. is_background y.ask) q os, k.background_few);
  ancestry_few = omega (arith, few_filter (λ y. not (is_background y.ask)) q os, k.ancestry_few);
}

-- both counts of the asks in order
pub counted_sorted : (os : List Open) (n : ℕ) → distinct os ≡ true → n ≡ length (backgrounds os) → record { background = n; ancestry = length os - n } ≡ counted (sorted os)
counted_sorted os n d e =
    let b : n ≡ length (backgrounds (sorted os)) = e ∙ sym (counted_alike (λ o. is_background o.ask) os d) in
    let a : length os - n ≡ length (ancestries (sorted os)) = omega (arith, both_sorts os, e, counted_alike (λ o. not (is_background o.ask)) os d) in
    cc

-- what a request makes of the asks, case by case
pub request_clears : (v : ℕ) (k : Kind) (t : Option ℕ) (os : List Open) → is_open v (Ancestry k) os ≡ true → is_some t ≡ false → (ancestry_full v k os ≡ false) × (placed (opened v (Ancestry k) None) os ≡ requested v k t os)
request_clears v k None os o e = rw o (refl, refl)
request_clears v k (Some s) os o e = absurd (cc)

pub request_stays : (v : ℕ) (k : Kind) (t : Option ℕ) (os : List Open) → is_open v (Ancestry k) os ≡ true → is_some t ≡ true → (ancestry_full v k os ≡ false) × (os ≡ requested v k t os)
request_stays v k None os o e = absurd (cc)
request_stays v k (Some s) os o e = rw o (refl, refl)

pub request_full : (v : ℕ) (k : Kind) (os : List Open) → is_open v (Ancestry k) os ≡ false → 64 ≤ length (ancestries os) → ancestry_full v k os ≡ true
request_full v k os f h = rw f (le-leb 64 (length (ancestries os)) h)

pub request_opens : (v : ℕ) (k : Kind) (t : Option ℕ) (os : List Open) → is_open v (Ancestry k) os ≡ false → length (ancestries os) < 64 → (ancestry_full v k os ≡ false) × (placed (opened v (Ancestry k) t) os ≡ requested v k t os)
request_opens v k t os f h = rw f (lt-leb 64 (length (ancestries os)) h, refl)

none_if : (f : Option Open) → is_some f ≡ false → f ≡ None
none_if None e = refl
none_if (Some o) e = absurd (cc)

-- where an ask stands
pub found : (k : ℕ) (os : List Open) (i : ℕ) (o : Open) → Some i ≡ position (λ x. eqb (place_of x) k) os → (i < length os) × (place_of (get_or os i o) ≡ k) × (is_some (lookup k (sorted os)) ≡ true)
found k os i o e =
    let s = position-Some (λ x. eqb (place_of x) k) os i o (sym e) in
    (s.0, eqb-true (place_of (get_or os i o)) k s.1, sym (found_by_position k os) ∙ ap is_some (sym e))

pub not_found : (k : ℕ) (os : List Open) → None ≡ position (λ x. eqb (place_of x) k) os → (is_some (lookup k (sorted os)) ≡ false) × (lookup k os ≡ None)
not_found k os e =
    let f : is_some (lookup k (sorted os)) ≡ false = sym (found_by_position k os) ∙ ap is_some (sym e) in
    (f, none_if (lookup k os) (ap is_some (sym ((in_order os).1 k)) ∙ f))

-- the first that passes among the first asks, and one more
pub first_more : (p : Open → Bool) (os : List Open) (i : ℕ) (d : Open) → distinct os ≡ true → i < length os → first_of (filter p (sorted (take (i + 1) os))) ≡ cond (p (get_or os i d)) (Some (lower_of (first_of (filter p (sorted (take i os)))) (get_or os i d))) (first_of (filter p (sorted (take i os))))
first_more p os i d a h =
    let x = get_or os i d in
    let early = none_before os i d a h in
    let more : sorted (take (i + 1) os) ≡ placed x (sorted (take i os)) = ap sorted (take_more os i d h) ∙ (pushed x (take i os) early.0 early.1).0 in
    ap (λ s. first_of (filter p s)) more ∙ first_of_more p x (sorted (take i os)) (in_order (take i os)).0 ((in_order (take i os)).1 (place_of x) ∙ early.1)
