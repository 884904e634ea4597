-- What the rows of a board tell of its asks.
use Rattle.std.proofs.Common.{◌≡◌, ℕ, zero, suc, ◌+◌, ◌-◌, ◌<◌, ◌≤◌, Bool, true, false, cond, not, ◌&&◌, ◌||◌, eqb, List, [], ◌∷◌, ◌++◌, length, take, drop, set, get_or, map, is_some, is_none, Some, None, filter, Option, sym, refl, ap, ◌∙◌, subst, inl, inr, arith}
use Rattle.std.specs.List.{AllByRecursion as All}
use Rattle.std.proofs.lemmas.List.{length-append, append_assoc, append-nil, take-append-le, take_all, get_or-append_right}
use Rattle.std.proofs.lemmas.Option.{none-some}
use Rattle.std.proofs.lemmas.Bool.{cases_Bool, cases_eq, and_from, and_parts, eqb-true, eq-eqb, ne_eqb, not-true}
use Rattle.std.proofs.lemmas.List.Elements.{filter-append}
use Rattle.board.specs.Asks.{place, place_of, is_background, retires}
use Rattle.board.specs.Boards.{opened, backgrounds, ancestries, first_of}
use Rattle.board.specs.Sorting.{lookup, sorted, distinct}
use Rattle.board.specs.declared.ask.Ask.{Ask}
use Rattle.board.specs.declared.ask.Ask.TheVariants.{Background, Ancestry}
use Rattle.board.specs.declared.open.Open.{Open}
use Rattle.board.specs.declared.retire.Retire.{Retire}
use Rattle.effects.specs.declared.effect.Kind.TheVariants.{Nullification, Notarization}
use Rattle.board.proofs.Laws.{in_order, pushed, none_before, first_of_more}
use Rattle.effects.specs.declared.effect.Kind.{Kind}
use Rattle.row_board.specs.Rows.{Fitting, fresh, has, is_bare, with_ask, closed, ancestry_of, part, asks_in}
use Rattle.row_board.specs.Entries.{has_row, views_apart, none_bare, asks_of, closed_rows, nearer, nearest}
use Rattle.row_board.specs.declared.row.Row.{Row}
use Rattle.row_board.proofs.Parts.{same_view, or_found, lookup_append, under, over, lookup_with, all_asks, distinct_append, distinct_row, closed_asks, bare_asks, some_asks, has_found}

none_among : (k : ℕ) (os : List Open) → All (λ o. place_of o ≡ k → ⊥) os → lookup k os ≡ None
unfolding lookup
none_among k [] a = refl
none_among k (o ∷ os) a = rw (ne_eqb (place_of o) k a.0) (none_among k os a.1)

-- a row that stands at a place is one of its view
at_row : (rs : List Row) (i : ℕ) (d : Row) → i < length rs → has_row (get_or rs i d).view rs ≡ false → ⊥
at_row [] i d h e = omega arith
at_row (r ∷ rs) zero d h e = let own : has_row r.view (r ∷ rs) ≡ true = rw (eq-eqb r.view r.view refl) refl in absurd (cc)
at_row (r ∷ rs) (suc i) d h e = elim (cases_Bool (eqb r.view (get_or rs i d).view)) [
  | inl t ↦ let bad : has_row (get_or rs i d).view (r ∷ rs) ≡ true = rw t refl in absurd (cc)
  | inr f ↦ at_row rs i d (omega arith) (rw f at e)
]

-- the asks of a row are at places of its view alone
other_row : (v : ℕ) (a : Ask) (r : Row) → (r.view ≡ v → ⊥) → lookup (place v a) (asks_in r) ≡ None
other_row v a r n = none_among (place v a) (asks_in r) (all_asks (λ o. place_of o ≡ place v a → ⊥) r (λ b t e. n (same_view r.view v b a e)))

-- a view with no row has no ask
pub no_row : (v : ℕ) (a : Ask) (rs : List Row) → has_row v rs ≡ false → lookup (place v a) (asks_of rs) ≡ None
unfolding lookup
no_row v a [] e = refl
no_row v a (r ∷ rs) e = elim (cases_eq r.view v) [
  | inl q ↦ let bad : has_row v (r ∷ rs) ≡ true = rw (eq-eqb r.view v q) refl in absurd (cc)
  | inr n ↦
      let rest : has_row v rs ≡ false = rw (ne_eqb r.view v n) at e in
      lookup_append (place v a) (asks_in r) (asks_of rs) ∙ (ap (λ f. or_found f (lookup (place v a) (asks_of rs))) (other_row v a r n) ∙ no_row v a rs rest)
]

-- rows of different views have asks at different places
pub distinct_rows : (rs : List Row) → views_apart rs ≡ true → distinct (asks_of rs) ≡ true
distinct_rows [] e = refl
distinct_rows (r ∷ rs) e =
    let parts = and_parts (not (has_row r.view rs)) (views_apart rs) e in
    distinct_append (asks_in r) (asks_of rs) (distinct_row r) (distinct_rows rs parts.1) (all_asks (λ o. lookup (place_of o) (asks_of rs) ≡ None) r (λ a t. no_row r.view a rs (not-true (has_row r.view rs) parts.0)))

-- an ask that is opened in its view's row
pub row_set : (k v : ℕ) (a : Ask) (t : Option ℕ) (rs : List Row) (i : ℕ) (d : Row) → Fitting a t → views_apart rs ≡ true → i < length rs → (get_or rs i d).view ≡ v → lookup k (asks_of (set rs i (with_ask a t (get_or rs i d)))) ≡ cond (eqb (place v a) k) (Some (opened v a t)) (lookup k (asks_of rs))
row_set k v a t [] i d f e h q = absurd (omega arith)
row_set k v a t (r ∷ rs) zero d f e h q =
    let b = eqb (place v a) k in
    let own : lookup k (asks_in (with_ask a t r)) ≡ cond b (Some (opened v a t)) (lookup k (asks_in r)) = subst (λ w. lookup k (asks_in (with_ask a t r)) ≡ cond (eqb (place w a) k) (Some (opened w a t)) (lookup k (asks_in r))) q (lookup_with k a t r f) in
    lookup_append k (asks_in (with_ask a t r)) (asks_of rs)
    ∙ (ap (λ x. or_found x (lookup k (asks_of rs))) own
    ∙ (over (lookup k (asks_in r)) (lookup k (asks_of rs)) (opened v a t) b
    ∙ ap (cond b (Some (opened v a t))) (sym (lookup_append k (asks_in r) (asks_of rs)))))
row_set k v a t (r ∷ rs) (suc i) d f e h q =
    let b = eqb (place v a) k in
    let s = get_or rs i d in
    let parts = and_parts (not (has_row r.view rs)) (views_apart rs) e in
    let other : r.view ≡ v → ⊥ = λ w. at_row rs i d (omega arith) (subst (λ n. has_row n rs ≡ false) (w ∙ sym q) (not-true (has_row r.view rs) parts.0)) in
    let none : b ≡ true → lookup k (asks_in r) ≡ None = λ y. subst (λ n. lookup n (asks_in r) ≡ None) (eqb-true (place v a) k y) (other_row v a r other) in
    lookup_append k (asks_in r) (asks_of (set rs i (with_ask a t s)))
    ∙ (ap (or_found (lookup k (asks_in r))) (row_set k v a t rs i d f parts.1 (omega arith) q)
    ∙ (under (lookup k (asks_in r)) (lookup k (asks_of rs)) (opened v a t) b none
    ∙ ap (cond b (Some (opened v a t))) (sym (lookup_append k (asks_in r) (asks_of rs)))))

-- an ask that is opened in a row of its own
pub asks_append : (rs ss : List Row) → asks_of (rs ++ ss) ≡ asks_of rs ++ asks_of ss
asks_append [] ss = refl
asks_append (r ∷ rs) ss = ap (λ xs. asks_in r ++ xs) (asks_append rs ss) ∙ sym (append_assoc (asks_in r) (asks_of rs) (asks_of ss))

bare_fresh : (v : ℕ) → asks_in (fresh v) ≡ []
bare_fresh v = bare_asks (fresh v) refl

-- one more, found nowhere before, behind the others
last_found : (k : ℕ) (f : Option Open) (o : Open) (b : Bool) → (b ≡ true → f ≡ None) → or_found f (cond b (Some o) None) ≡ cond b (Some o) f
last_found k None o true h = refl
last_found k None o false h = refl
last_found k (Some x) o true h = absurd (none-some x (sym (h refl)))
last_found k (Some x) o false h = refl

same_found_or : (f : Option Open) → or_found f None ≡ f
same_found_or None = refl
same_found_or (Some o) = refl

pub row_push : (k v : ℕ) (a : Ask) (t : Option ℕ) (rs : List Row) → Fitting a t → has_row v rs ≡ false → lookup k (asks_of (rs ++ with_ask a t (fresh v) ∷ [])) ≡ cond (eqb (place v a) k) (Some (opened v a t)) (lookup k (asks_of rs))
unfolding lookup
row_push k v a t rs f e =
    let b = eqb (place v a) k in
    let o = opened v a t in
    let own : lookup k (asks_of (with_ask a t (fresh v) ∷ [])) ≡ cond b (Some o) None =
    lookup_append k (asks_in (with_ask a t (fresh v))) []
    ∙ (ap (λ x. or_found x None) (lookup_with k a t (fresh v) f ∙ ap (λ xs. cond b (Some o) (lookup k xs)) (bare_fresh v)) ∙ same_found_or (cond b (Some o) None)) in
    ap (lookup k) (asks_append rs (with_ask a t (fresh v) ∷ []))
    ∙ (lookup_append k (asks_of rs) (asks_of (with_ask a t (fresh v) ∷ []))
    ∙ (ap (or_found (lookup k (asks_of rs))) own
    ∙ last_found k (lookup k (asks_of rs)) o b (λ y. subst (λ n. lookup n (asks_of rs) ≡ None) (eqb-true (place v a) k y) (no_row v a rs e))))

has_push : (v : ℕ) (rs : List Row) (r : Row) → (r.view ≡ v → ⊥) → has_row v (rs ++ r ∷ []) ≡ has_row v rs
has_push v [] r n = rw (ne_eqb r.view v n) refl
has_push v (s ∷ rs) r n = ap (λ b. eqb s.view v || b) (has_push v rs r n)

-- rows that are changed stand for the same views
apart_set : (rs : List Row) (i : ℕ) (r d : Row) → i < length rs → r.view ≡ (get_or rs i d).view → (v : ℕ) → has_row v (set rs i r) ≡ has_row v rs
apart_set [] i r d h q v = absurd (omega arith)
apart_set (s ∷ rs) zero r d h q v = ap (λ w. eqb w v || has_row v rs) q
apart_set (s ∷ rs) (suc i) r d h q v = ap (λ b. eqb s.view v || b) (apart_set rs i r d (omega arith) q v)

pub views_set : (rs : List Row) (i : ℕ) (r d : Row) → i < length rs → r.view ≡ (get_or rs i d).view → views_apart rs ≡ true → views_apart (set rs i r) ≡ true
views_set [] i r d h q e = absurd (omega arith)
views_set (s ∷ rs) zero r d h q e = subst (λ w. (not (has_row w rs) && views_apart rs) ≡ true) (sym q) e
views_set (s ∷ rs) (suc i) r d h q e =
    let parts = and_parts (not (has_row s.view rs)) (views_apart rs) e in
    and_from (not (has_row s.view (set rs i r))) (views_apart (set rs i r)) (ap not (apart_set rs i r d (omega arith) q s.view) ∙ parts.0) (views_set rs i r d (omega arith) q parts.1)

pub views_push : (rs : List Row) (r : Row) → has_row r.view rs ≡ false → views_apart rs ≡ true → views_apart (rs ++ r ∷ []) ≡ true
views_push [] r n e = refl
views_push (s ∷ rs) r n e =
    let parts = and_parts (not (has_row s.view rs)) (views_apart rs) e in
    elim (cases_eq s.view r.view) [
      | inl q ↦ let bad : has_row r.view (s ∷ rs) ≡ true = rw (eq-eqb s.view r.view q) refl in absurd (cc)
      | inr m ↦
          let rest : has_row r.view rs ≡ false = rw (ne_eqb s.view r.view m) at n in
          and_from (not (has_row s.view (rs ++ r ∷ []))) (views_apart (rs ++ r ∷ [])) (ap not (has_push s.view rs r (λ q. m (sym q))) ∙ parts.0) (views_push rs r rest parts.1)
    ]

-- no row without an ask
pub full_set : (rs : List Row) (i : ℕ) (r : Row) → is_bare r ≡ false → none_bare rs ≡ true → none_bare (set rs i r) ≡ true
full_set [] i r b e = e
full_set (s ∷ rs) zero r b e = rw b (and_parts (not (is_bare s)) (none_bare rs) e).1
full_set (s ∷ rs) (suc i) r b e =
    let parts = and_parts (not (is_bare s)) (none_bare rs) e in
    and_from (not (is_bare s)) (none_bare (set rs i r)) parts.0 (full_set rs i r b parts.1)

pub full_push : (rs : List Row) (r : Row) → is_bare r ≡ false → none_bare rs ≡ true → none_bare (rs ++ r ∷ []) ≡ true
full_push [] r b e = rw b refl
full_push (s ∷ rs) r b e =
    let parts = and_parts (not (is_bare s)) (none_bare rs) e in
    and_from (not (is_bare s)) (none_bare (rs ++ r ∷ [])) parts.0 (full_push rs r b parts.1)

-- so there are no more rows than asks
pub rows_few : (rs : List Row) → none_bare rs ≡ true → length rs ≤ length (asks_of rs)
rows_few [] e = omega arith
rows_few (r ∷ rs) e =
    let parts = and_parts (not (is_bare r)) (none_bare rs) e in
    omega (arith, length-append (asks_in r) (asks_of rs), some_asks r (not-true (is_bare r) parts.0), rows_few rs parts.1)

pub bare_with : (a : Ask) (t : Option ℕ) (r : Row) → is_bare (with_ask a t r) ≡ false
bare_with Background t r = refl
bare_with (Ancestry Nullification) t r = elim (cases_Bool (not r.background)) [ inl y ↦ rw y refl | inr n ↦ rw n refl ]
bare_with (Ancestry Notarization) t r = elim (cases_Bool (not r.background)) [ inl y ↦ rw y (elim (cases_Bool (is_none r.nullification)) [ inl u ↦ rw u refl | inr w ↦ rw w refl ]) | inr n ↦ rw n refl ]

pub close_asks : (q : Retire) (rs : List Row) → asks_of (closed_rows q rs) ≡ filter (λ o. not (retires q o)) (asks_of rs)
close_asks q [] = refl
close_asks q (r ∷ rs) =
    let p : Open → Bool = λ o. not (retires q o) in
    let more = close_asks q rs in
    let split = filter-append p (asks_in r) (asks_of rs) in
    elim (cases_Bool (is_bare (closed q r))) [
      | inl t ↦ rw t (more ∙ (ap (λ xs. xs ++ filter p (asks_of rs)) (sym (bare_asks (closed q r) t) ∙ closed_asks q r) ∙ sym split))
      | inr f ↦ rw f (ap (λ xs. xs ++ asks_of (closed_rows q rs)) (closed_asks q r) ∙ (ap (λ xs. filter p (asks_in r) ++ xs) more ∙ sym split))
    ]

has_closed : (q : Retire) (v : ℕ) (rs : List Row) → has_row v rs ≡ false → has_row v (closed_rows q rs) ≡ false
has_closed q v [] e = refl
has_closed q v (r ∷ rs) e = elim (cases_eq r.view v) [
  | inl y ↦ let bad : has_row v (r ∷ rs) ≡ true = rw (eq-eqb r.view v y) refl in absurd (cc)
  | inr n ↦
      let rest = has_closed q v rs (rw (ne_eqb r.view v n) at e) in
      elim (cases_Bool (is_bare (closed q r))) [ inl t ↦ rw t rest | inr f ↦ rw f (rw (ne_eqb r.view v n) rest) ]
]

pub views_closed : (q : Retire) (rs : List Row) → views_apart rs ≡ true → views_apart (closed_rows q rs) ≡ true
views_closed q [] e = refl
views_closed q (r ∷ rs) e =
    let parts = and_parts (not (has_row r.view rs)) (views_apart rs) e in
    let more = views_closed q rs parts.1 in
    elim (cases_Bool (is_bare (closed q r))) [
      | inl t ↦ rw t more
      | inr f ↦ rw f (rw (has_closed q r.view rs (not-true (has_row r.view rs) parts.0)) more)
    ]

pub full_closed : (q : Retire) (rs : List Row) → none_bare (closed_rows q rs) ≡ true
full_closed q [] = refl
full_closed q (r ∷ rs) = elim (cases_Bool (is_bare (closed q r))) [ inl t ↦ rw t (full_closed q rs) | inr f ↦ rw f (rw f (full_closed q rs)) ]

-- how many asks of each sort rows have
no_background : (v : ℕ) (d : Kind) (m : Option (Option ℕ)) → length (filter (λ o. is_background o.ask) (ancestry_of v d m)) ≡ 0
no_background v d None = refl
no_background v d (Some t) = refl

all_ancestry : (v : ℕ) (d : Kind) (m : Option (Option ℕ)) → length (filter (λ o. not (is_background o.ask)) (ancestry_of v d m)) ≡ cond (is_some m) 1 0
all_ancestry v d None = refl
all_ancestry v d (Some t) = refl

length_filters : (p : Open → Bool) (xs ys : List Open) → length (filter p (xs ++ ys)) ≡ length (filter p xs) + length (filter p ys)
length_filters p xs ys = ap length (filter-append p xs ys) ∙ length-append (filter p xs) (filter p ys)

background_in : (r : Row) → length (backgrounds (asks_in r)) ≡ cond r.background 1 0
unfolding asks_in
background_in r =
    let p : Open → Bool = λ o. is_background o.ask in
    let n = part (Ancestry Nullification) r in
    let m = part (Ancestry Notarization) r in
    let own : length (filter p (part Background r)) ≡ cond r.background 1 0 = elim (cases_Bool r.background) [ inl t ↦ rw t refl | inr f ↦ rw f refl ] in
    omega (arith, length_filters p (part Background r) (n ++ m), length_filters p n m, own, no_background r.view Nullification r.nullification, no_background r.view Notarization r.notarization)

ancestry_in : (r : Row) → length (ancestries (asks_in r)) ≡ cond (is_some r.nullification) 1 0 + cond (is_some r.notarization) 1 0
unfolding asks_in
ancestry_in r =
    let p : Open → Bool = λ o. not (is_background o.ask) in
    let n = part (Ancestry Nullification) r in
    let m = part (Ancestry Notarization) r in
    let own : length (filter p (part Background r)) ≡ 0 = elim (cases_Bool r.background) [ inl t ↦ rw t refl | inr f ↦ rw f refl ] in
    omega (arith, length_filters p (part Background r) (n ++ m), length_filters p n m, own, all_ancestry r.view Nullification r.nullification, all_ancestry r.view Notarization r.notarization)

one_row : (p : Row → Bool) (r : Row) (rs : List Row) → length (filter p (r ∷ rs)) ≡ cond (p r) 1 0 + length (filter p rs)
one_row p r rs = elim (cases_Bool (p r)) [ inl t ↦ rw t (omega arith) | inr f ↦ rw f (omega arith) ]

pub background_rows : (rs : List Row) → length (backgrounds (asks_of rs)) ≡ length (filter (has Background) rs)
background_rows [] = refl
background_rows (r ∷ rs) = omega (arith, length_filters (λ o. is_background o.ask) (asks_in r) (asks_of rs), background_in r, one_row (has Background) r rs, background_rows rs)

pub ancestry_rows : (rs : List Row) → length (ancestries (asks_of rs)) ≡ length (filter (has (Ancestry Nullification)) rs) + length (filter (has (Ancestry Notarization)) rs)
ancestry_rows [] = refl
ancestry_rows (r ∷ rs) = omega (arith, length_filters (λ o. not (is_background o.ask)) (asks_in r) (asks_of rs), ancestry_in r, one_row (has (Ancestry Nullification)) r rs, one_row (has (Ancestry Notarization)) r rs, ancestry_rows rs)

-- the first that passes among asks, and more behind them
pub nearest_sorted : (p : Open → Bool) (xs os : List Open) → distinct (xs ++ os) ≡ true → first_of (filter p (sorted (xs ++ os))) ≡ nearest p (first_of (filter p (sorted xs))) os
unfolding nearest
nearest_sorted p xs [] d = ap (λ ys. first_of (filter p (sorted ys))) (append-nil xs)
nearest_sorted p xs (o ∷ os) d =
    let l = length xs in
    let early = none_before (xs ++ o ∷ os) l o d (omega (arith, length-append xs (o ∷ os))) in
    let front : take l (xs ++ o ∷ os) ≡ xs = take-append-le l xs (o ∷ os) (omega arith) ∙ take_all l xs (omega arith) in
    let none : l - l ≡ 0 = omega arith in
    let here : get_or (xs ++ o ∷ os) l o ≡ o = get_or-append_right xs (o ∷ os) l l o refl (omega arith) ∙ ap (λ n. get_or (o ∷ os) n o) none in
    let apart : distinct xs ≡ true = subst (λ ys. distinct ys ≡ true) front early.0 in
    let absent : lookup (place_of o) xs ≡ None = subst (λ ys. lookup (place_of o) ys ≡ None) front (subst (λ x. lookup (place_of x) (take l (xs ++ o ∷ os)) ≡ None) here early.1) in
    let regroup : xs ++ o ∷ os ≡ (xs ++ o ∷ []) ++ os = sym (append_assoc xs (o ∷ []) os) in
    let more = first_of_more p o (sorted xs) (in_order xs).0 ((in_order xs).1 (place_of o) ∙ absent) in
    ap (λ ys. first_of (filter p (sorted ys))) regroup
    ∙ (nearest_sorted p (xs ++ o ∷ []) os (subst (λ ys. distinct ys ≡ true) regroup d)
    ∙ ap (λ b. nearest p b os) (ap (λ ys. first_of (filter p ys)) (pushed o xs apart absent).0 ∙ more))

pub nearest_append : (p : Open → Bool) (b : Option Open) (xs ys : List Open) → nearest p b (xs ++ ys) ≡ nearest p (nearest p b xs) ys
unfolding nearest
nearest_append p b [] ys = refl
nearest_append p b (x ∷ xs) ys = nearest_append p (nearer p b x) xs ys

-- rows that are changed from the front on, and one more
mapped_suc : (f : Row → Row) (rs : List Row) (i : ℕ) (d : Row) → i < length rs → set (map f (take i rs) ++ drop i rs) i (f (get_or (map f (take i rs) ++ drop i rs) i d)) ≡ map f (take (suc i) rs) ++ drop (suc i) rs
mapped_suc f [] i d h = absurd (omega arith)
mapped_suc f (r ∷ rs) zero d h = refl
mapped_suc f (r ∷ rs) (suc i) d h = ap (λ xs. f r ∷ xs) (mapped_suc f rs i d (omega arith))

pub mapped_more : (f : Row → Row) (rs now : List Row) (i : ℕ) (d r : Row) → i < length rs → now ≡ map f (take i rs) ++ drop i rs → r ≡ f (get_or now i d) → set now i r ≡ map f (take (i + 1) rs) ++ drop (i + 1) rs
mapped_more f rs now i d r h e q =
    let one : suc i ≡ i + 1 = omega arith in
    let here : set now i (f (get_or now i d)) ≡ map f (take (suc i) rs) ++ drop (suc i) rs = subst (λ xs. set xs i (f (get_or xs i d)) ≡ map f (take (suc i) rs) ++ drop (suc i) rs) (sym e) (mapped_suc f rs i d h) in
    ap (set now i) q ∙ (here ∙ ap (λ n. map f (take n rs) ++ drop n rs) one)

-- a view's asks are found in its row
pub in_row : (v : ℕ) (a : Ask) (rs : List Row) (i : ℕ) (d : Row) → views_apart rs ≡ true → i < length rs → (get_or rs i d).view ≡ v → is_some (lookup (place v a) (asks_of rs)) ≡ has a (get_or rs i d)
in_row v a [] i d e h q = absurd (omega arith)
in_row v a (r ∷ rs) zero d e h q =
    let parts = and_parts (not (has_row r.view rs)) (views_apart rs) e in
    let rest : lookup (place v a) (asks_of rs) ≡ None = subst (λ w. lookup (place w a) (asks_of rs) ≡ None) q (no_row r.view a rs (not-true (has_row r.view rs) parts.0)) in
    ap is_some (lookup_append (place v a) (asks_in r) (asks_of rs) ∙ (ap (or_found (lookup (place v a) (asks_in r))) rest ∙ same_found_or (lookup (place v a) (asks_in r))))
    ∙ subst (λ w. is_some (lookup (place w a) (asks_in r)) ≡ has a r) q (has_found a r)
in_row v a (r ∷ rs) (suc i) d e h q =
    let parts = and_parts (not (has_row r.view rs)) (views_apart rs) e in
    let other : r.view ≡ v → ⊥ = λ w. at_row rs i d (omega arith) (subst (λ n. has_row n rs ≡ false) (w ∙ sym q) (not-true (has_row r.view rs) parts.0)) in
    ap is_some (lookup_append (place v a) (asks_in r) (asks_of rs) ∙ ap (λ f. or_found f (lookup (place v a) (asks_of rs))) (other_row v a r other)) ∙ in_row v a rs i d parts.1 (omega arith) q

-- how many rows pass, after one is changed
pub count_set : (p : Row → Bool) (rs : List Row) (i : ℕ) (r d : Row) → i < length rs → length (filter p (set rs i r)) + cond (p (get_or rs i d)) 1 0 ≡ length (filter p rs) + cond (p r) 1 0
count_set p [] i r d h = absurd (omega arith)
count_set p (s ∷ rs) zero r d h = omega (arith, one_row p r rs, one_row p s rs)
count_set p (s ∷ rs) (suc i) r d h = omega (arith, one_row p s (set rs i r), one_row p s rs, count_set p rs i r d (omega arith))

pub count_push : (p : Row → Bool) (rs : List Row) (r : Row) → length (filter p (rs ++ r ∷ [])) ≡ length (filter p rs) + cond (p r) 1 0
count_push p [] r = elim (cases_Bool (p r)) [ inl t ↦ rw t refl | inr f ↦ rw f refl ]
count_push p (s ∷ rs) r = omega (arith, one_row p s (rs ++ r ∷ []), one_row p s rs, count_push p rs r)
