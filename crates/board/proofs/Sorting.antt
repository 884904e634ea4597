-- Open asks in order: what is found at each place, and that two lists in order in which the same is found are the same.
use Rattle.std.proofs.Common.{◌≡◌, ℕ, zero, suc, set, get_or, take, ◌<◌, ◌⊎◌, Bool, true, cond, not, eqb, List, [], ◌∷◌, ◌++◌, length, is_some, Some, None, filter, Option, sym, refl, ap, ◌∙◌, subst, inl, inr, arith}
use Rattle.std.specs.List.{AllByRecursion as All}
use Rattle.std.proofs.ByRecursion.{All-weaker, all_kept_by}
use Rattle.std.proofs.lemmas.Bool.{cases_Bool, cases_eq, cases_lt, and_parts, eq-eqb, ne_eqb, lt-ltb, le-ltb}
use Rattle.board.specs.Asks.{place_of, lower_of}
use Rattle.board.specs.Boards.{first_of}
use Rattle.board.specs.Sorting.{lookup, placed, Rises, sorted, distinct}
use Rattle.board.specs.declared.open.Open.{Open}

-- the three ways in which two places stand
abbrev pub Apart : Open → Open → Type 0
Apart o x = (place_of o < place_of x) ⊎ ((place_of o ≡ place_of x) ⊎ (place_of x < place_of o))

apart : (o x : Open) → Apart o x
apart o x = elim (cases_lt (place_of o) (place_of x)) [
  | inl h ↦ inl h
  | inr h ↦ elim (cases_eq (place_of o) (place_of x)) [ inl e ↦ inr (inl e) | inr n ↦ inr (inr (omega (arith, n))) ]
]

-- where one goes in
placed_first : (o x : Open) (xs : List Open) → place_of o < place_of x → placed o (x ∷ xs) ≡ o ∷ (x ∷ xs)
unfolding placed
placed_first o x xs h = rw (lt-ltb (place_of o) (place_of x) h) refl

placed_instead : (o x : Open) (xs : List Open) → place_of o ≡ place_of x → placed o (x ∷ xs) ≡ o ∷ xs
unfolding placed
placed_instead o x xs e = rw (le-ltb (place_of o) (place_of x) (omega (arith, e)), eq-eqb (place_of o) (place_of x) e) refl

placed_later : (o x : Open) (xs : List Open) → place_of x < place_of o → placed o (x ∷ xs) ≡ x ∷ placed o xs
unfolding placed
placed_later o x xs h = rw (le-ltb (place_of o) (place_of x) (omega arith), ne_eqb (place_of o) (place_of x) (λ e. omega (arith, e))) refl

all_placed : (P : Open → Type 0) (o : Open) (xs : List Open) → P o → All P xs → All P (placed o xs)
unfolding placed
all_placed P o [] p a = (p, tt)
all_placed P o (x ∷ xs) p a = elim (apart o x) [
  | inl h ↦ rw (placed_first o x xs h) (p, a)
  | inr (inl e) ↦ rw (placed_instead o x xs e) (p, a.1)
  | inr (inr h) ↦ rw (placed_later o x xs h) (a.0, all_placed P o xs p a.1)
]

pub rises_placed : (o : Open) (xs : List Open) → Rises xs → Rises (placed o xs)
unfolding placed
rises_placed o [] r = (tt, tt)
rises_placed o (x ∷ xs) r = elim (apart o x) [
  | inl h ↦ rw (placed_first o x xs h) ((h, All-weaker (λ y. place_of x < place_of y) (λ y. place_of o < place_of y) (λ y l. omega (arith, l, h)) xs r.0), r)
  | inr (inl e) ↦ rw (placed_instead o x xs e) (All-weaker (λ y. place_of x < place_of y) (λ y. place_of o < place_of y) (λ y l. omega (arith, l, e)) xs r.0, r.1)
  | inr (inr h) ↦ rw (placed_later o x xs h) (all_placed (λ y. place_of x < place_of y) o xs h r.0, rises_placed o xs r.1)
]

pub rises_sorted : (os : List Open) → Rises (sorted os)
unfolding sorted
rises_sorted [] = tt
rises_sorted (o ∷ os) = rises_placed o (sorted os) (rises_sorted os)

pub rises_filter : (p : Open → Bool) (xs : List Open) → Rises xs → Rises (filter p xs)
rises_filter p [] r = tt
rises_filter p (x ∷ xs) r = elim (cases_Bool (p x)) [
  | inl t ↦ rw t (all_kept_by p (λ y. place_of x < place_of y) xs r.0, rises_filter p xs r.1)
  | inr f ↦ rw f (rises_filter p xs r.1)
]

-- what is found after one went in
pub lookup_placed : (k : ℕ) (o : Open) (xs : List Open) → lookup k (placed o xs) ≡ cond (eqb (place_of o) k) (Some o) (lookup k xs)
unfolding lookup placed
lookup_placed k o [] = refl
lookup_placed k o (x ∷ xs) = elim (apart o x) [
  | inl h ↦ rw (placed_first o x xs h) refl
  | inr (inl e) ↦ rw (placed_instead o x xs e) (elim (cases_eq (place_of o) k) [
    | inl s ↦ rw (eq-eqb (place_of o) k s) refl
    | inr n ↦ rw (ne_eqb (place_of o) k n, ne_eqb (place_of x) k (λ s. n (e ∙ s))) refl
  ])
  | inr (inr h) ↦ rw (placed_later o x xs h) (elim (cases_eq (place_of x) k) [
    | inl s ↦ rw (eq-eqb (place_of x) k s, ne_eqb (place_of o) k (λ t. omega (arith, s, t, h))) refl
    | inr n ↦ rw (ne_eqb (place_of x) k n) (lookup_placed k o xs)
  ])
]

pub lookup_sorted : (k : ℕ) (os : List Open) → lookup k (sorted os) ≡ lookup k os
unfolding lookup sorted
lookup_sorted k [] = refl
lookup_sorted k (o ∷ os) = lookup_placed k o (sorted os) ∙ ap (λ f. cond (eqb (place_of o) k) (Some o) f) (lookup_sorted k os)

-- nothing is found below all
none_below : (k : ℕ) (xs : List Open) → All (λ x. k < place_of x) xs → lookup k xs ≡ None
unfolding lookup
none_below k [] a = refl
none_below k (x ∷ xs) a = rw (ne_eqb (place_of x) k (λ e. omega (arith, a.0, e))) (none_below k xs a.1)

-- found at its own place
found_first : (x : Open) (xs : List Open) → lookup (place_of x) (x ∷ xs) ≡ Some x
unfolding lookup
found_first x xs = rw (eq-eqb (place_of x) (place_of x) refl) refl

found_later : (k : ℕ) (x : Open) (xs : List Open) → (place_of x ≡ k → ⊥) → lookup k (x ∷ xs) ≡ lookup k xs
unfolding lookup
found_later k x xs n = rw (ne_eqb (place_of x) k n) refl

-- two lists in order in which the same is found are the same
pub same_found : (xs ys : List Open) → Rises xs → Rises ys → ((k : ℕ) → lookup k xs ≡ lookup k ys) → xs ≡ ys
unfolding lookup
same_found [] [] r s h = refl
same_found [] (y ∷ ys) r s h = let e : None ≡ Some y = h (place_of y) ∙ found_first y ys in absurd (cc)
same_found (x ∷ xs) [] r s h = let e : Some x ≡ None = sym (found_first x xs) ∙ h (place_of x) in absurd (cc)
same_found (x ∷ xs) (y ∷ ys) r s h = elim (apart x y) [
  | inl l ↦ let e : Some x ≡ None = sym (found_first x xs) ∙ (h (place_of x) ∙ none_below (place_of x) (y ∷ ys) (l, All-weaker (λ z. place_of y < place_of z) (λ z. place_of x < place_of z) (λ z m. omega (arith, m, l)) ys s.0)) in absurd (cc)
  | inr (inr l) ↦ let e : None ≡ Some y = sym (none_below (place_of y) (x ∷ xs) (l, All-weaker (λ z. place_of x < place_of z) (λ z. place_of y < place_of z) (λ z m. omega (arith, m, l)) xs r.0)) ∙ (h (place_of y) ∙ found_first y ys) in absurd (cc)
  | inr (inl q) ↦
      let e : Some x ≡ Some y = sym (found_first x xs) ∙ (h (place_of x) ∙ (ap (λ k. lookup k (y ∷ ys)) q ∙ found_first y ys)) in
      let same : x ≡ y = cc in
      let rest : xs ≡ ys = same_found xs ys r.1 s.1 (λ k. elim (cases_eq (place_of x) k) [
        | inl t ↦ let above : All (λ z. k < place_of z) xs = subst (λ n. All (λ z. n < place_of z) xs) t r.0 in
            let over : All (λ z. k < place_of z) ys = subst (λ n. All (λ z. n < place_of z) ys) (sym q ∙ t) s.0 in
            none_below k xs above ∙ sym (none_below k ys over)
        | inr n ↦ sym (found_later k x xs n) ∙ (h k ∙ found_later k y ys (λ t. n (q ∙ t)))
      ]) in
      cc
]

-- what is found, if it passes
abbrev pub if_passes : (Open → Bool) → Option Open → Option Open
if_passes p None = None
if_passes p (Some o) = cond (p o) (Some o) None

-- no two of the same place: the first is not found among the others
none_or_some : (f : Option Open) → not (is_some f) ≡ true → f ≡ None
none_or_some None t = refl
none_or_some (Some o) t = absurd (cc)

pub head_fresh : (o : Open) (os : List Open) → distinct (o ∷ os) ≡ true → (lookup (place_of o) os ≡ None) × (distinct os ≡ true)
head_fresh o os d =
    let parts = and_parts (not (is_some (lookup (place_of o) os))) (distinct os) d in
    (none_or_some (lookup (place_of o) os) parts.0, parts.1)

fresh_head : (o : Open) (os : List Open) → lookup (place_of o) os ≡ None → distinct os ≡ true → distinct (o ∷ os) ≡ true
fresh_head o os n d = rw n d

pub rises_distinct : (os : List Open) → Rises os → distinct os ≡ true
rises_distinct [] r = refl
rises_distinct (o ∷ os) r = fresh_head o os (none_below (place_of o) os r.0) (rises_distinct os r.1)

-- a filter finds what passes
pub lookup_filter : (p : Open → Bool) (k : ℕ) (os : List Open) → distinct os ≡ true → lookup k (filter p os) ≡ if_passes p (lookup k os)
unfolding lookup
lookup_filter p k [] d = refl
lookup_filter p k (o ∷ os) d =
    let fresh = head_fresh o os d in
    let more = lookup_filter p k os fresh.1 in
    elim (cases_eq (place_of o) k) [
      | inl e ↦
          let gone : lookup k (filter p os) ≡ None = more ∙ ap (if_passes p) (ap (λ n. lookup n os) (sym e) ∙ fresh.0) in
          elim (cases_Bool (p o)) [
            | inl t ↦ rw t (rw (eq-eqb (place_of o) k e) (rw t refl))
            | inr f ↦ rw f (rw (eq-eqb (place_of o) k e) (rw f gone))
          ]
      | inr n ↦ elim (cases_Bool (p o)) [
        | inl t ↦ rw t (rw (ne_eqb (place_of o) k n) more)
        | inr f ↦ rw f (rw (ne_eqb (place_of o) k n) more)
      ]
    ]

pub distinct_filter : (p : Open → Bool) (os : List Open) → distinct os ≡ true → distinct (filter p os) ≡ true
distinct_filter p [] d = refl
distinct_filter p (o ∷ os) d =
    let fresh = head_fresh o os d in
    let more = distinct_filter p os fresh.1 in
    elim (cases_Bool (p o)) [
      | inl t ↦ rw t (fresh_head o (filter p os) (lookup_filter p (place_of o) os fresh.1 ∙ ap (if_passes p) fresh.0) more)
      | inr f ↦ rw f more
    ]

-- what is filtered and then put in order is what is put in order and then filtered
pub sorted_filter : (p : Open → Bool) (os : List Open) → distinct os ≡ true → sorted (filter p os) ≡ filter p (sorted os)
sorted_filter p os d =
    let r = rises_sorted os in
    same_found (sorted (filter p os)) (filter p (sorted os)) (rises_sorted (filter p os)) (rises_filter p (sorted os) r) (λ k.
    lookup_sorted k (filter p os) ∙ (lookup_filter p k os d ∙ (ap (if_passes p) (sym (lookup_sorted k os)) ∙ sym (lookup_filter p k (sorted os) (rises_distinct (sorted os) r)))))

-- two lists in which the same is found, but for one more
pub sorted_placed : (o : Open) (os more : List Open) → ((k : ℕ) → lookup k more ≡ cond (eqb (place_of o) k) (Some o) (lookup k os)) → sorted more ≡ placed o (sorted os)
sorted_placed o os more h =
    same_found (sorted more) (placed o (sorted os)) (rises_sorted more) (rises_placed o (sorted os) (rises_sorted os)) (λ k.
    lookup_sorted k more ∙ (h k ∙ (ap (λ f. cond (eqb (place_of o) k) (Some o) f) (sym (lookup_sorted k os)) ∙ sym (lookup_placed k o (sorted os)))))

-- one that is pushed
pub lookup_push : (o : Open) (os : List Open) → lookup (place_of o) os ≡ None → (k : ℕ) → lookup k (os ++ o ∷ []) ≡ cond (eqb (place_of o) k) (Some o) (lookup k os)
unfolding lookup
lookup_push o [] n k = refl
lookup_push o (x ∷ os) n k = elim (cases_eq (place_of x) (place_of o)) [
  | inl e ↦ let bad : Some x ≡ None = sym (ap (λ b. cond b (Some x) (lookup (place_of o) os)) (eq-eqb (place_of x) (place_of o) e)) ∙ n in absurd (cc)
  | inr m ↦
      let rest : lookup (place_of o) os ≡ None = sym (found_later (place_of o) x os m) ∙ n in
      let more = lookup_push o os rest k in
      elim (cases_eq (place_of x) k) [
        | inl e ↦ rw (eq-eqb (place_of x) k e, ne_eqb (place_of o) k (λ t. m (e ∙ sym t))) refl
        | inr l ↦ rw (ne_eqb (place_of x) k l) more
      ]
]

pub distinct_push : (o : Open) (os : List Open) → lookup (place_of o) os ≡ None → distinct os ≡ true → distinct (os ++ o ∷ []) ≡ true
unfolding lookup
distinct_push o [] n d = refl
distinct_push o (x ∷ os) n d = elim (cases_eq (place_of x) (place_of o)) [
  | inl e ↦ let bad : Some x ≡ None = sym (ap (λ b. cond b (Some x) (lookup (place_of o) os)) (eq-eqb (place_of x) (place_of o) e)) ∙ n in absurd (cc)
  | inr m ↦
      let fresh = head_fresh x os d in
      let rest : lookup (place_of o) os ≡ None = sym (found_later (place_of o) x os m) ∙ n in
      fresh_head x (os ++ o ∷ []) (lookup_push o os rest (place_of x) ∙ rw (ne_eqb (place_of o) (place_of x) (λ t. m (sym t))) fresh.0) (distinct_push o os rest fresh.1)
]

-- how many pass is the same in any order
length_placed : (p : Open → Bool) (o : Open) (xs : List Open) → lookup (place_of o) xs ≡ None → length (filter p (placed o xs)) ≡ length (filter p (o ∷ xs))
unfolding lookup placed
length_placed p o [] n = refl
length_placed p o (x ∷ xs) n = elim (apart o x) [
  | inl h ↦ rw (placed_first o x xs h) refl
  | inr (inl e) ↦ let bad : Some x ≡ None = sym (ap (λ b. cond b (Some x) (lookup (place_of o) xs)) (eq-eqb (place_of x) (place_of o) (sym e))) ∙ n in absurd (cc)
  | inr (inr h) ↦
      let rest : lookup (place_of o) xs ≡ None = sym (found_later (place_of o) x xs (λ e. omega (arith, e, h))) ∙ n in
      let more = length_placed p o xs rest in
      rw (placed_later o x xs h) (elim (cases_Bool (p x)) [
        | inl t ↦ elim (cases_Bool (p o)) [ inl u ↦ rw t (rw u (ap suc (more ∙ rw u refl))) | inr v ↦ rw t (rw v (ap suc (more ∙ rw v refl))) ]
        | inr f ↦ rw f (elim (cases_Bool (p o)) [ inl u ↦ rw u (more ∙ rw u refl) | inr v ↦ rw v (more ∙ rw v refl) ])
      ])
]

pub length_sorted : (p : Open → Bool) (os : List Open) → distinct os ≡ true → length (filter p (sorted os)) ≡ length (filter p os)
unfolding sorted
length_sorted p [] d = refl
length_sorted p (o ∷ os) d =
    let fresh = head_fresh o os d in
    let more = length_sorted p os fresh.1 in
    length_placed p o (sorted os) (lookup_sorted (place_of o) os ∙ fresh.0) ∙ elim (cases_Bool (p o)) [ inl t ↦ rw t (ap suc more) | inr f ↦ rw f more ]

-- what stands at a place of the list is found at its own
found_at : (os : List Open) (i : ℕ) (d : Open) → i < length os → lookup (place_of (get_or os i d)) os ≡ None → ⊥
unfolding lookup
found_at [] i d h n = omega arith
found_at (x ∷ os) zero d h n = let bad : Some x ≡ None = sym (found_first x os) ∙ n in absurd (cc)
found_at (x ∷ os) (suc i) d h n = elim (cases_eq (place_of x) (place_of (get_or os i d))) [
  | inl e ↦ let bad : Some x ≡ None = sym (ap (λ b. cond b (Some x) (lookup (place_of (get_or os i d)) os)) (eq-eqb (place_of x) (place_of (get_or os i d)) e)) ∙ n in absurd (cc)
  | inr m ↦ found_at os i d (omega arith) (sym (found_later (place_of (get_or os i d)) x os m) ∙ n)
]

-- one that stands instead of another of its place
pub lookup_set : (o : Open) (os : List Open) (i : ℕ) → distinct os ≡ true → i < length os → place_of (get_or os i o) ≡ place_of o → (k : ℕ) → lookup k (set os i o) ≡ cond (eqb (place_of o) k) (Some o) (lookup k os)
unfolding lookup
lookup_set o [] i d h e k = absurd (omega arith)
lookup_set o (x ∷ os) zero d h e k = elim (cases_eq (place_of o) k) [
  | inl t ↦ rw (eq-eqb (place_of o) k t) refl
  | inr n ↦ rw (ne_eqb (place_of o) k n, ne_eqb (place_of x) k (λ t. n (sym e ∙ t))) refl
]
lookup_set o (x ∷ os) (suc i) d h e k =
    let fresh = head_fresh x os d in
    let other : place_of x ≡ place_of o → ⊥ = λ t. found_at os i o (omega arith) (ap (λ n. lookup n os) (e ∙ sym t) ∙ fresh.0) in
    let more = lookup_set o os i fresh.1 (omega arith) e k in
    elim (cases_eq (place_of x) k) [
      | inl t ↦ rw (eq-eqb (place_of x) k t, ne_eqb (place_of o) k (λ u. other (t ∙ sym u))) refl
      | inr n ↦ rw (ne_eqb (place_of x) k n) more
    ]

pub distinct_set : (o : Open) (os : List Open) (i : ℕ) → distinct os ≡ true → i < length os → place_of (get_or os i o) ≡ place_of o → distinct (set os i o) ≡ true
distinct_set o [] i d h e = absurd (omega arith)
distinct_set o (x ∷ os) zero d h e =
    let fresh = head_fresh x os d in
    fresh_head o os (ap (λ n. lookup n os) (sym e) ∙ fresh.0) fresh.1
distinct_set o (x ∷ os) (suc i) d h e =
    let fresh = head_fresh x os d in
    let other : place_of o ≡ place_of x → ⊥ = λ t. found_at os i o (omega arith) (ap (λ n. lookup n os) (e ∙ t) ∙ fresh.0) in
    fresh_head x (set os i o) (lookup_set o os i fresh.1 (omega arith) e (place_of x) ∙ rw (ne_eqb (place_of o) (place_of x) other) fresh.0) (distinct_set o os i fresh.1 (omega arith) e)

-- the first that passes, after one went in
lower_first : (o : Open) (xs : List Open) → All (λ x. place_of o < place_of x) xs → lower_of (first_of xs) o ≡ o
lower_first o [] a = refl
lower_first o (x ∷ xs) a = rw (le-ltb (place_of x) (place_of o) (omega (arith, a.0))) refl

pub first_placed : (p : Open → Bool) (o : Open) (xs : List Open) → Rises xs → lookup (place_of o) xs ≡ None → first_of (filter p (placed o xs)) ≡ cond (p o) (Some (lower_of (first_of (filter p xs)) o)) (first_of (filter p xs))
unfolding lookup placed
first_placed p o [] r n = elim (cases_Bool (p o)) [ inl t ↦ rw t refl | inr f ↦ rw f refl ]
first_placed p o (x ∷ xs) r n = elim (apart o x) [
  | inl h ↦
      let above : All (λ y. place_of o < place_of y) (x ∷ xs) = (h, All-weaker (λ y. place_of x < place_of y) (λ y. place_of o < place_of y) (λ y l. omega (arith, l, h)) xs r.0) in
      rw (placed_first o x xs h) (elim (cases_Bool (p o)) [
        | inl t ↦ rw t (ap Some (sym (lower_first o (filter p (x ∷ xs)) (all_kept_by p (λ y. place_of o < place_of y) (x ∷ xs) above))))
        | inr f ↦ rw f refl
      ])
  | inr (inl e) ↦ let bad : Some x ≡ None = sym (ap (λ b. cond b (Some x) (lookup (place_of o) xs)) (eq-eqb (place_of x) (place_of o) (sym e))) ∙ n in absurd (cc)
  | inr (inr h) ↦
      let rest : lookup (place_of o) xs ≡ None = sym (found_later (place_of o) x xs (λ e. omega (arith, e, h))) ∙ n in
      let more = first_placed p o xs r.1 rest in
      rw (placed_later o x xs h) (elim (cases_Bool (p x)) [
        | inl t ↦ rw t (rw (lt-ltb (place_of x) (place_of o) h) (elim (cases_Bool (p o)) [ inl u ↦ rw u refl | inr v ↦ rw v refl ]))
        | inr f ↦ rw f more
      ])
]

-- the first asks of a list
none_earlier : (k : ℕ) (os : List Open) (n : ℕ) → lookup k os ≡ None → lookup k (take n os) ≡ None
unfolding lookup
none_earlier k [] zero e = refl
none_earlier k [] (suc n) e = refl
none_earlier k (x ∷ os) zero e = refl
none_earlier k (x ∷ os) (suc n) e = elim (cases_eq (place_of x) k) [
  | inl t ↦ let bad : Some x ≡ None = sym (ap (λ b. cond b (Some x) (lookup k os)) (eq-eqb (place_of x) k t)) ∙ e in absurd (cc)
  | inr m ↦ rw (ne_eqb (place_of x) k m) (none_earlier k os n (sym (found_later k x os m) ∙ e))
]

pub distinct_take : (os : List Open) (n : ℕ) → distinct os ≡ true → distinct (take n os) ≡ true
distinct_take [] zero d = refl
distinct_take [] (suc n) d = refl
distinct_take (x ∷ os) zero d = refl
distinct_take (x ∷ os) (suc n) d =
    let fresh = head_fresh x os d in
    fresh_head x (take n os) (none_earlier (place_of x) os n fresh.0) (distinct_take os n fresh.1)

pub fresh_before : (os : List Open) (i : ℕ) (d : Open) → distinct os ≡ true → i < length os → lookup (place_of (get_or os i d)) (take i os) ≡ None
unfolding lookup
fresh_before [] i d a h = absurd (omega arith)
fresh_before (x ∷ os) zero d a h = refl
fresh_before (x ∷ os) (suc i) d a h =
    let fresh = head_fresh x os a in
    let k = place_of (get_or os i d) in
    let other : place_of x ≡ k → ⊥ = λ e. found_at os i d (omega arith) (ap (λ n. lookup n os) (sym e) ∙ fresh.0) in
    found_later k x (take i os) other ∙ fresh_before os i d fresh.1 (omega arith)
