-- What is found among the asks of one row.
use Rattle.std.proofs.Common.{◌≡◌, ℕ, ◌<◌, ◌≤◌, Bool, true, false, cond, not, ◌&&◌, eqb, List, [], ◌∷◌, ◌++◌, length, is_some, is_none, Some, None, filter, Option, sym, refl, ap, ◌∙◌, inl, inr, arith}
use Rattle.std.specs.List.{AllByRecursion as All}
use Rattle.std.proofs.ByRecursion.{All-append}
use Rattle.std.proofs.lemmas.List.{length-append}
use Rattle.std.proofs.lemmas.Bool.{cases_Bool, cases_eq, and_from, and_parts, eqb-true, eq-eqb, ne_eqb, not-true}
use Rattle.std.proofs.lemmas.List.Elements.{filter-append}
use Rattle.board.specs.Asks.{rank, place, place_of, retires}
use Rattle.board.specs.Boards.{opened}
use Rattle.board.specs.Sorting.{lookup, distinct}
use Rattle.board.specs.declared.ask.Ask.{Ask}
use Rattle.board.specs.declared.ask.Ask.TheVariants.{Background, Ancestry}
use Rattle.board.specs.declared.open.Open.{Open}
use Rattle.board.specs.declared.retire.Retire.{Retire}
use Rattle.effects.specs.declared.effect.Kind.{Kind}
use Rattle.effects.specs.declared.effect.Kind.TheVariants.{Nullification, Notarization}
use Rattle.row_board.specs.Rows.{Fitting, has, is_bare, with_ask, kept_target, closed, ancestry_of, part, asks_in}
use Rattle.row_board.specs.declared.row.Row.{Row}

-- ranks are below three, so places tell views apart
rank_low : (a : Ask) → rank a < 3
rank_low Background = omega arith
rank_low (Ancestry Nullification) = omega arith
rank_low (Ancestry Notarization) = omega arith

pub same_view : (v w : ℕ) (a b : Ask) → place v a ≡ place w b → v ≡ w
same_view v w a b e = omega (arith, e, rank_low a, rank_low b)

-- what is found first
abbrev pub or_found : Option Open → Option Open → Option Open
or_found None g = g
or_found (Some o) g = Some o

pub lookup_append : (k : ℕ) (xs ys : List Open) → lookup k (xs ++ ys) ≡ or_found (lookup k xs) (lookup k ys)
unfolding lookup
lookup_append k [] ys = refl
lookup_append k (x ∷ xs) ys = elim (cases_Bool (eqb (place_of x) k)) [ inl t ↦ rw t refl | inr f ↦ rw f (lookup_append k xs ys) ]

-- one more below what is found elsewhere
pub under : (f g : Option Open) (o : Open) (b : Bool) → (b ≡ true → f ≡ None) → or_found f (cond b (Some o) g) ≡ cond b (Some o) (or_found f g)
under f g o true h = rw (h refl) refl
under None g o false h = refl
under (Some x) g o false h = refl

pub over : (f g : Option Open) (o : Open) (b : Bool) → or_found (cond b (Some o) f) g ≡ cond b (Some o) (or_found f g)
over f g o true = refl
over f g o false = refl

-- the ask of a rank is found at its place alone
one_place : (k : ℕ) (o : Open) → (place_of o ≡ k → ⊥) → lookup k (o ∷ []) ≡ None
unfolding lookup
one_place k o n = rw (ne_eqb (place_of o) k n) refl

ancestry_elsewhere : (k v : ℕ) (d : Kind) (m : Option (Option ℕ)) → (place v (Ancestry d) ≡ k → ⊥) → lookup k (ancestry_of v d m) ≡ None
unfolding lookup
ancestry_elsewhere k v d None n = refl
ancestry_elsewhere k v d (Some t) n = one_place k (opened v (Ancestry d) t) n

pub elsewhere : (k : ℕ) (a : Ask) (r : Row) → (place r.view a ≡ k → ⊥) → lookup k (part a r) ≡ None
unfolding lookup
elsewhere k Background r n = elim (cases_Bool r.background) [ inl t ↦ rw t (one_place k (opened r.view Background None) n) | inr f ↦ rw f refl ]
elsewhere k (Ancestry Nullification) r n = ancestry_elsewhere k r.view Nullification r.nullification n
elsewhere k (Ancestry Notarization) r n = ancestry_elsewhere k r.view Notarization r.notarization n

-- the ask that is opened, in the place of what stood there
opened_part : (k : ℕ) (o : Open) (old : List Open) → ((place_of o ≡ k → ⊥) → lookup k old ≡ None) → lookup k (o ∷ []) ≡ cond (eqb (place_of o) k) (Some o) (lookup k old)
unfolding lookup
opened_part k o old h = elim (cases_eq (place_of o) k) [ inl e ↦ rw (eq-eqb (place_of o) k e) refl | inr n ↦ rw (ne_eqb (place_of o) k n) (sym (h n)) ]

pub found_in : (k : ℕ) (r : Row) → lookup k (asks_in r) ≡ or_found (lookup k (part Background r)) (or_found (lookup k (part (Ancestry Nullification) r)) (lookup k (part (Ancestry Notarization) r)))
unfolding asks_in
found_in k r = lookup_append k (part Background r) (part (Ancestry Nullification) r ++ part (Ancestry Notarization) r) ∙ ap (or_found (lookup k (part Background r))) (lookup_append k (part (Ancestry Nullification) r) (part (Ancestry Notarization) r))

-- asks of two ranks stand at two places
apart : (k v : ℕ) (a b : Ask) → (rank a ≡ rank b → ⊥) → eqb (place v a) k ≡ true → place v b ≡ k → ⊥
apart k v a b n t e = n (omega (arith, eqb-true (place v a) k t, e))

pub lookup_with : (k : ℕ) (a : Ask) (t : Option ℕ) (r : Row) → Fitting a t → lookup k (asks_in (with_ask a t r)) ≡ cond (eqb (place r.view a) k) (Some (opened r.view a t)) (lookup k (asks_in r))
lookup_with k Background t r e =
    let a : Ask = Background in
    let f = lookup k (part a r) in
    let g = or_found (lookup k (part (Ancestry Nullification) r)) (lookup k (part (Ancestry Notarization) r)) in
    let o = opened r.view a None in
    let c = eqb (place r.view a) k in
    found_in k (with_ask a t r)
    ∙ (ap (λ x. or_found x g) (opened_part k o (part a r) (elsewhere k a r))
    ∙ (over f g o c ∙ (ap (cond c (Some o)) (sym (found_in k r)) ∙ ap (λ s. cond c (Some (opened r.view a s)) (lookup k (asks_in r))) (sym e))))
lookup_with k (Ancestry Nullification) t r e =
    let a : Ask = Ancestry Nullification in
    let f = lookup k (part Background r) in
    let g = lookup k (part a r) in
    let h = lookup k (part (Ancestry Notarization) r) in
    let o = opened r.view a t in
    let c = eqb (place r.view a) k in
    found_in k (with_ask a t r)
    ∙ (ap (λ x. or_found f (or_found x h)) (opened_part k o (part a r) (elsewhere k a r))
    ∙ (ap (or_found f) (over g h o c)
    ∙ (under f (or_found g h) o c (λ b. elsewhere k Background r (apart k r.view a Background (λ q. omega (arith, q)) b))
    ∙ ap (cond c (Some o)) (sym (found_in k r)))))
lookup_with k (Ancestry Notarization) t r e =
    let a : Ask = Ancestry Notarization in
    let f = lookup k (part Background r) in
    let g = lookup k (part (Ancestry Nullification) r) in
    let h = lookup k (part a r) in
    let o = opened r.view a t in
    let c = eqb (place r.view a) k in
    found_in k (with_ask a t r)
    ∙ (ap (λ x. or_found f (or_found g x)) (opened_part k o (part a r) (elsewhere k a r))
    ∙ (ap (or_found f) (under g h o c (λ b. elsewhere k (Ancestry Nullification) r (apart k r.view a (Ancestry Nullification) (λ q. omega (arith, q)) b)))
    ∙ (under f (or_found g h) o c (λ b. elsewhere k Background r (apart k r.view a Background (λ q. omega (arith, q)) b))
    ∙ ap (cond c (Some o)) (sym (found_in k r)))))

background_all : (P : Open → Type 0) (r : Row) → ((a : Ask) (t : Option ℕ) → P (opened r.view a t)) → All P (part Background r)
background_all P r h = elim (cases_Bool r.background) [ inl t ↦ rw t (h Background None, tt) | inr f ↦ rw f tt ]

ancestry_all : (P : Open → Type 0) (v : ℕ) (d : Kind) (m : Option (Option ℕ)) → ((a : Ask) (t : Option ℕ) → P (opened v a t)) → All P (ancestry_of v d m)
ancestry_all P v d None h = tt
ancestry_all P v d (Some t) h = (h (Ancestry d) t, tt)

-- the asks of a row stand at places of its view
pub all_asks : (P : Open → Type 0) (r : Row) → ((a : Ask) (t : Option ℕ) → P (opened r.view a t)) → All P (asks_in r)
unfolding asks_in
all_asks P r h = All-append P (part Background r) (part (Ancestry Nullification) r ++ part (Ancestry Notarization) r) (background_all P r h) (All-append P (part (Ancestry Nullification) r) (part (Ancestry Notarization) r) (ancestry_all P r.view Nullification r.nullification h) (ancestry_all P r.view Notarization r.notarization h))

-- no two asks of a row stand at one place
distinct_one : (v : ℕ) (d : Kind) (m : Option (Option ℕ)) → distinct (ancestry_of v d m) ≡ true
unfolding lookup
distinct_one v d None = refl
distinct_one v d (Some t) = refl

distinct_background : (r : Row) → distinct (part Background r) ≡ true
unfolding lookup
distinct_background r = elim (cases_Bool r.background) [ inl t ↦ rw t refl | inr f ↦ rw f refl ]

both : (f : Option Open) → not (is_some f) ≡ true → not (is_some (or_found f None)) ≡ true
both None n = refl
both (Some o) n = n

absent_both : (k : ℕ) (xs ys : List Open) → not (is_some (lookup k xs)) ≡ true → lookup k ys ≡ None → not (is_some (lookup k (xs ++ ys))) ≡ true
absent_both k xs ys n e = rw (lookup_append k xs ys) (rw e (both (lookup k xs) n))

pub distinct_append : (xs ys : List Open) → distinct xs ≡ true → distinct ys ≡ true → All (λ o. lookup (place_of o) ys ≡ None) xs → distinct (xs ++ ys) ≡ true
distinct_append [] ys d e a = e
distinct_append (x ∷ xs) ys d e a =
    let parts = and_parts (not (is_some (lookup (place_of x) xs))) (distinct xs) d in
    and_from (not (is_some (lookup (place_of x) (xs ++ ys)))) (distinct (xs ++ ys)) (absent_both (place_of x) xs ys parts.0 a.0) (distinct_append xs ys parts.1 e a.1)

here : (P : Open → Type 0) (v : ℕ) (d : Kind) (m : Option (Option ℕ)) → ((t : Option ℕ) → P (opened v (Ancestry d) t)) → All P (ancestry_of v d m)
here P v d None h = tt
here P v d (Some t) h = (h t, tt)

ancestry_all_of : (r : Row) → All (λ o. lookup (place_of o) (part (Ancestry Notarization) r) ≡ None) (part (Ancestry Nullification) r)
ancestry_all_of r = here (λ o. lookup (place_of o) (part (Ancestry Notarization) r) ≡ None) r.view Nullification r.nullification (λ t. elsewhere (place_of (opened r.view (Ancestry Nullification) t)) (Ancestry Notarization) r (λ e. omega (arith, e)))

background_all_of : (r : Row) → All (λ o. lookup (place_of o) (part (Ancestry Nullification) r ++ part (Ancestry Notarization) r) ≡ None) (part Background r)
background_all_of r =
    let k = place r.view Background in
    let none : lookup k (part (Ancestry Nullification) r ++ part (Ancestry Notarization) r) ≡ None = lookup_append k (part (Ancestry Nullification) r) (part (Ancestry Notarization) r) ∙ (ap (λ f. or_found f (lookup k (part (Ancestry Notarization) r))) (elsewhere k (Ancestry Nullification) r (λ e. omega (arith, e))) ∙ elsewhere k (Ancestry Notarization) r (λ e. omega (arith, e))) in
    elim (cases_Bool r.background) [ inl t ↦ rw t (none, tt) | inr f ↦ rw f tt ]

pub distinct_row : (r : Row) → distinct (asks_in r) ≡ true
unfolding asks_in
distinct_row r =
    let nul = part (Ancestry Nullification) r in
    let notar = part (Ancestry Notarization) r in
    let two : distinct (nul ++ notar) ≡ true = distinct_append nul notar (distinct_one r.view Nullification r.nullification) (distinct_one r.view Notarization r.notarization) (ancestry_all_of r) in
    distinct_append (part Background r) (nul ++ notar) (distinct_background r) two (background_all_of r)

ancestry_stays : (q : Retire) (v : ℕ) (d : Kind) (m : Option (Option ℕ)) → ancestry_of v d (kept_target q v d m) ≡ filter (λ o. not (retires q o)) (ancestry_of v d m)
ancestry_stays q v d None = refl
ancestry_stays q v d (Some t) = elim (cases_Bool (retires q (opened v (Ancestry d) t))) [ inl y ↦ rw y refl | inr n ↦ rw n refl ]

background_stays : (q : Retire) (r : Row) → part Background (closed q r) ≡ filter (λ o. not (retires q o)) (part Background r)
background_stays q r = elim (cases_Bool r.background) [
  | inl t ↦ rw t (elim (cases_Bool (retires q (opened r.view Background None))) [ inl y ↦ rw y refl | inr n ↦ rw n refl ])
  | inr f ↦ rw f refl
]

pub closed_asks : (q : Retire) (r : Row) → asks_in (closed q r) ≡ filter (λ o. not (retires q o)) (asks_in r)
unfolding asks_in
closed_asks q r =
    let p : Open → Bool = λ o. not (retires q o) in
    let b = part Background r in
    let n = part (Ancestry Nullification) r in
    let m = part (Ancestry Notarization) r in
    ap (λ xs. xs ++ (part (Ancestry Nullification) (closed q r) ++ part (Ancestry Notarization) (closed q r))) (background_stays q r)
    ∙ (ap (λ xs. filter p b ++ (xs ++ part (Ancestry Notarization) (closed q r))) (ancestry_stays q r.view Nullification r.nullification)
    ∙ (ap (λ xs. filter p b ++ (filter p n ++ xs)) (ancestry_stays q r.view Notarization r.notarization)
    ∙ (ap (λ xs. filter p b ++ xs) (sym (filter-append p n m)) ∙ sym (filter-append p b (n ++ m)))))

none_of : (m : Option (Option ℕ)) → is_none m ≡ true → m ≡ None
none_of None t = refl
none_of (Some t) e = absurd (cc)

-- a row with no ask has none
pub bare_asks : (r : Row) → is_bare r ≡ true → asks_in r ≡ []
unfolding asks_in
bare_asks r e =
    let parts = and_parts (not r.background) (is_none r.nullification && is_none r.notarization) e in
    let more = and_parts (is_none r.nullification) (is_none r.notarization) parts.1 in
    let b : r.background ≡ false = not-true r.background parts.0 in
    rw b (rw (none_of r.nullification more.0) (rw (none_of r.notarization more.1) refl))

some_of : (v : ℕ) (d : Kind) (m : Option (Option ℕ)) → is_none m ≡ false → 1 ≤ length (ancestry_of v d m)
some_of v d None e = absurd (cc)
some_of v d (Some t) e = omega arith

pub some_asks : (r : Row) → is_bare r ≡ false → 1 ≤ length (asks_in r)
unfolding asks_in
some_asks r e =
    let n = part (Ancestry Nullification) r in
    let m = part (Ancestry Notarization) r in
    let all = length-append (part Background r) (n ++ m) in
    let two = length-append n m in
    elim (cases_Bool r.background) [
      | inl t ↦ let b : 1 ≤ length (part Background r) = rw t (omega arith) in omega (arith, all, b)
      | inr f ↦ elim (cases_Bool (is_none r.nullification)) [
        | inr g ↦ omega (arith, all, two, some_of r.view Nullification r.nullification g)
        | inl g ↦ elim (cases_Bool (is_none r.notarization)) [
          | inr h ↦ omega (arith, all, two, some_of r.view Notarization r.notarization h)
          | inl h ↦ let bad : is_bare r ≡ true = rw f (rw g (rw h refl)) in absurd (cc)
        ]
      ]
    ]

-- an ask is found in its row exactly if it is open there
own_ancestry : (v : ℕ) (d : Kind) (m : Option (Option ℕ)) → is_some (lookup (place v (Ancestry d)) (ancestry_of v d m)) ≡ is_some m
unfolding lookup
own_ancestry v d None = refl
own_ancestry v d (Some t) = rw (eq-eqb (place v (Ancestry d)) (place v (Ancestry d)) refl) refl

own_background : (r : Row) → is_some (lookup (place r.view Background) (part Background r)) ≡ r.background
unfolding lookup
own_background r = elim (cases_Bool r.background) [ inl t ↦ rw t (rw (eq-eqb (place r.view Background) (place r.view Background) refl) refl) | inr f ↦ rw f refl ]

or_none : (f : Option Open) → or_found f None ≡ f
or_none None = refl
or_none (Some o) = refl

pub has_found : (a : Ask) (r : Row) → is_some (lookup (place r.view a) (asks_in r)) ≡ has a r
has_found Background r =
    let k = place r.view Background in
    let f = lookup k (part Background r) in
    ap is_some (found_in k r
    ∙ (ap (λ g. or_found f (or_found g (lookup k (part (Ancestry Notarization) r)))) (elsewhere k (Ancestry Nullification) r (λ e. omega (arith, e)))
    ∙ (ap (or_found f) (elsewhere k (Ancestry Notarization) r (λ e. omega (arith, e))) ∙ or_none f))) ∙ own_background r
has_found (Ancestry Nullification) r =
    let k = place r.view (Ancestry Nullification) in
    let g = lookup k (part (Ancestry Nullification) r) in
    ap is_some (found_in k r
    ∙ (ap (λ f. or_found f (or_found g (lookup k (part (Ancestry Notarization) r)))) (elsewhere k Background r (λ e. omega (arith, e)))
    ∙ (ap (or_found g) (elsewhere k (Ancestry Notarization) r (λ e. omega (arith, e))) ∙ or_none g))) ∙ own_ancestry r.view Nullification r.nullification
has_found (Ancestry Notarization) r =
    let k = place r.view (Ancestry Notarization) in
    let h = lookup k (part (Ancestry Notarization) r) in
    ap is_some (found_in k r
    ∙ (ap (λ f. or_found f (or_found (lookup k (part (Ancestry Nullification) r)) h)) (elsewhere k Background r (λ e. omega (arith, e)))
    ∙ ap (λ f. or_found f h) (elsewhere k (Ancestry Nullification) r (λ e. omega (arith, e))))) ∙ own_ancestry r.view Notarization r.notarization
