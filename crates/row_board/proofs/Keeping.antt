-- What holds of the rows of every board, and that opening and closing asks keeps it.
use Rattle.std.proofs.Common.{◌≡◌, ℕ, zero, suc, ◌+◌, ◌-◌, ◌<◌, ◌≤◌, Bool, true, false, cond, not, eqb, ltb, List, [], ◌∷◌, ◌++◌, length, take, drop, set, get_or, map, is_some, Some, None, filter, Option, sym, refl, ap, ◌∙◌, subst, inl, inr, arith}
use Rattle.std.proofs.lemmas.List.{append-nil, take-append-le, take_all, get_or-take, length-take-le, take_more, take_more_set, length-map}
use Rattle.std.proofs.lemmas.List.Quantifiers.{position-Some}
use Rattle.std.specs.List.{position, position_or_len}
use Rattle.std.proofs.lemmas.List.Filters.{length-filter_both}
use Rattle.std.proofs.lemmas.Bool.{cases_Bool, cases_lt, lt-ltb, le-ltb, and_from, and_parts, eqb-true, not-true}
use Rattle.std.proofs.Math.Seq.{take-set-lt}
use Rattle.board.specs.Asks.{place, is_background, retires}
use Rattle.board.specs.Boards.{opened, backgrounds, ancestries, retired, counted, first_of}
use Rattle.board.specs.Sorting.{lookup, placed, sorted, distinct}
use Rattle.board.specs.declared.ask.Ask.{Ask}
use Rattle.board.specs.declared.ask.Ask.TheVariants.{Background, Ancestry}
use Rattle.board.specs.declared.open.Open.{Open}
use Rattle.board.specs.declared.retire.Retire.{Retire}
use Rattle.effects.specs.declared.effect.Kind.TheVariants.{Nullification, Notarization}
use Rattle.board.proofs.Laws.{in_order, one_more, filtered, counted_alike}
use Rattle.row_board.specs.Rows.{Fitting, fresh, has, with_ask, closed, part, asks_in}
use Rattle.row_board.specs.Entries.{has_row, views_apart, none_bare, asks_of, closed_rows, nearest}
use Rattle.row_board.specs.declared.row.Row.{Row}
use Rattle.row_board.proofs.Entries.{no_row, distinct_rows, row_set, asks_append, row_push, views_set, views_push, full_set, full_push, rows_few, bare_with, close_asks, views_closed, full_closed, background_rows, ancestry_rows, nearest_sorted, nearest_append, in_row, count_set, count_push}

-- what holds of the rows of every board
pub record Kept (rs : List Row) : Type 0 where
  pub apart : views_apart rs ≡ true
  pub filled : none_bare rs ≡ true
  pub background_few : length (backgrounds (asks_of rs)) ≤ 256
  pub ancestry_few : length (ancestries (asks_of rs)) ≤ 64

-- an ask is open, or there is room for one of its sort
pub record Room (v : ℕ) (a : Ask) (rs : List Row) : Type 0 where
  pub background : is_background a ≡ true → is_some (lookup (place v a) (asks_of rs)) ≡ false → length (backgrounds (asks_of rs)) < 256
  pub ancestry : is_background a ≡ false → is_some (lookup (place v a) (asks_of rs)) ≡ false → length (ancestries (asks_of rs)) < 64

few : (b : Bool) (n m l : ℕ) → m + cond b 1 0 ≡ n + 1 → n ≤ l → (b ≡ false → n < l) → m ≤ l
few true n m l e h r = omega (arith, e, h)
few false n m l e h r = omega (arith, e, r refl)

few_set : (a : Ask) (t : Option ℕ) (v : ℕ) (rs : List Row) (i : ℕ) (d : Row) → Kept rs → Room v a rs → i < length rs → (get_or rs i d).view ≡ v → (length (backgrounds (asks_of (set rs i (with_ask a t (get_or rs i d))))) ≤ 256) × (length (ancestries (asks_of (set rs i (with_ask a t (get_or rs i d))))) ≤ 64)
few_set Background t v rs i d k r h q =
    let s = get_or rs i d in
    let now = set rs i (with_ask Background t s) in
    let own = in_row v Background rs i d k.apart h q in
    let b = count_set (has Background) rs i (with_ask Background t s) d h in
    let n = count_set (has (Ancestry Nullification)) rs i (with_ask Background t s) d h in
    let m = count_set (has (Ancestry Notarization)) rs i (with_ask Background t s) d h in (
      few (has Background s) (length (backgrounds (asks_of rs))) (length (backgrounds (asks_of now))) 256 (omega (arith, b, background_rows rs, background_rows now)) k.background_few (λ f. r.background refl (own ∙ f)),
      omega (arith, n, m, ancestry_rows rs, ancestry_rows now, k.ancestry_few),
    )
few_set (Ancestry Nullification) t v rs i d k r h q =
    let s = get_or rs i d in
    let a : Ask = Ancestry Nullification in
    let now = set rs i (with_ask a t s) in
    let own = in_row v a rs i d k.apart h q in
    let b = count_set (has Background) rs i (with_ask a t s) d h in
    let n = count_set (has a) rs i (with_ask a t s) d h in
    let m = count_set (has (Ancestry Notarization)) rs i (with_ask a t s) d h in (
      omega (arith, b, background_rows rs, background_rows now, k.background_few),
      few (has a s) (length (ancestries (asks_of rs))) (length (ancestries (asks_of now))) 64 (omega (arith, n, m, ancestry_rows rs, ancestry_rows now)) k.ancestry_few (λ f. r.ancestry refl (own ∙ f)),
    )
few_set (Ancestry Notarization) t v rs i d k r h q =
    let s = get_or rs i d in
    let a : Ask = Ancestry Notarization in
    let now = set rs i (with_ask a t s) in
    let own = in_row v a rs i d k.apart h q in
    let b = count_set (has Background) rs i (with_ask a t s) d h in
    let n = count_set (has (Ancestry Nullification)) rs i (with_ask a t s) d h in
    let m = count_set (has a) rs i (with_ask a t s) d h in (
      omega (arith, b, background_rows rs, background_rows now, k.background_few),
      few (has a s) (length (ancestries (asks_of rs))) (length (ancestries (asks_of now))) 64 (omega (arith, n, m, ancestry_rows rs, ancestry_rows now)) k.ancestry_few (λ f. r.ancestry refl (own ∙ f)),
    )

pub same_view_with : (a : Ask) (t : Option ℕ) (r : Row) → (with_ask a t r).view ≡ r.view
same_view_with Background t r = refl
same_view_with (Ancestry Nullification) t r = refl
same_view_with (Ancestry Notarization) t r = refl

both_sorts : (os : List Open) → length (backgrounds os) + length (ancestries os) ≡ length os
both_sorts os = length-filter_both (λ o. is_background o.ask) (λ o. not (is_background o.ask)) (λ _. refl) os

-- an ask is opened in its view's row
pub opened_in_row : (v : ℕ) (a : Ask) (t : Option ℕ) (rs : List Row) (i : ℕ) (d : Row) → Fitting a t → Kept rs → Room v a rs → i < length rs → (get_or rs i d).view ≡ v → Kept (set rs i (with_ask a t (get_or rs i d))) × (sorted (asks_of (set rs i (with_ask a t (get_or rs i d)))) ≡ placed (opened v a t) (sorted (asks_of rs)))
opened_in_row v a t rs i d f k r h q =
    let s = get_or rs i d in
    let counts = few_set a t v rs i d k r h q in
    let kept : Kept (set rs i (with_ask a t s)) = record {
      apart = views_set rs i (with_ask a t s) d h (same_view_with a t s) k.apart;
      filled = full_set rs i (with_ask a t s) (bare_with a t s) k.filled;
      background_few = counts.0;
      ancestry_few = counts.1;
    } in
    (kept, one_more (opened v a t) (asks_of rs) (asks_of (set rs i (with_ask a t s))) (λ n. row_set n v a t rs i d f k.apart h q))

-- or in a row of its own
few_push : (a : Ask) (t : Option ℕ) (v : ℕ) (rs : List Row) → Kept rs → Room v a rs → has_row v rs ≡ false → (length (backgrounds (asks_of (rs ++ with_ask a t (fresh v) ∷ []))) ≤ 256) × (length (ancestries (asks_of (rs ++ with_ask a t (fresh v) ∷ []))) ≤ 64)
few_push Background t v rs k r e =
    let now = rs ++ with_ask Background t (fresh v) ∷ [] in (
      omega (arith, count_push (has Background) rs (with_ask Background t (fresh v)), background_rows rs, background_rows now, r.background refl (ap is_some (no_row v Background rs e))),
      omega (arith, count_push (has (Ancestry Nullification)) rs (with_ask Background t (fresh v)), count_push (has (Ancestry Notarization)) rs (with_ask Background t (fresh v)), ancestry_rows rs, ancestry_rows now, k.ancestry_few),
    )
few_push (Ancestry Nullification) t v rs k r e =
    let a : Ask = Ancestry Nullification in
    let now = rs ++ with_ask a t (fresh v) ∷ [] in (
      omega (arith, count_push (has Background) rs (with_ask a t (fresh v)), background_rows rs, background_rows now, k.background_few),
      omega (arith, count_push (has a) rs (with_ask a t (fresh v)), count_push (has (Ancestry Notarization)) rs (with_ask a t (fresh v)), ancestry_rows rs, ancestry_rows now, r.ancestry refl (ap is_some (no_row v a rs e))),
    )
few_push (Ancestry Notarization) t v rs k r e =
    let a : Ask = Ancestry Notarization in
    let now = rs ++ with_ask a t (fresh v) ∷ [] in (
      omega (arith, count_push (has Background) rs (with_ask a t (fresh v)), background_rows rs, background_rows now, k.background_few),
      omega (arith, count_push (has (Ancestry Nullification)) rs (with_ask a t (fresh v)), count_push (has a) rs (with_ask a t (fresh v)), ancestry_rows rs, ancestry_rows now, r.ancestry refl (ap is_some (no_row v a rs e))),
    )

view_with : (v : ℕ) (a : Ask) (t : Option ℕ) → (with_ask a t (fresh v)).view ≡ v
view_with v a t = same_view_with a t (fresh v)

pub opened_behind : (v : ℕ) (a : Ask) (t : Option ℕ) (rs : List Row) → Fitting a t → Kept rs → Room v a rs → has_row v rs ≡ false → Kept (rs ++ with_ask a t (fresh v) ∷ []) × (sorted (asks_of (rs ++ with_ask a t (fresh v) ∷ [])) ≡ placed (opened v a t) (sorted (asks_of rs)))
opened_behind v a t rs f k r e =
    let n = with_ask a t (fresh v) in
    let counts = few_push a t v rs k r e in
    let kept : Kept (rs ++ n ∷ []) = record {
      apart = views_push rs n (ap (λ w. has_row w rs) (view_with v a t) ∙ e) k.apart;
      filled = full_push rs n (bare_with a t (fresh v)) k.filled;
      background_few = counts.0;
      ancestry_few = counts.1;
    } in
    (kept, one_more (opened v a t) (asks_of rs) (asks_of (rs ++ n ∷ [])) (λ k. row_push k v a t rs f e))

-- there is a place for one more row
pub room_for : (v : ℕ) (a : Ask) (rs : List Row) → Kept rs → Room v a rs → has_row v rs ≡ false → length rs < 320
room_for v a rs k r e =
    let both = both_sorts (asks_of rs) in
    elim (cases_Bool (is_background a)) [
      | inl t ↦ omega (arith, both, rows_few rs k.filled, r.background t (ap is_some (no_row v a rs e)), k.ancestry_few)
      | inr f ↦ omega (arith, both, rows_few rs k.filled, r.ancestry f (ap is_some (no_row v a rs e)), k.background_few)
    ]

pub nearest_row : (p : Open → Bool) (b : Option Open) (r : Row) → nearest p (nearest p (nearest p b (part Background r)) (part (Ancestry Nullification) r)) (part (Ancestry Notarization) r) ≡ nearest p b (asks_in r)
unfolding asks_in
nearest_row p b r =
    let n = part (Ancestry Nullification) r in
    let m = part (Ancestry Notarization) r in
    sym (nearest_append p b (part Background r) (n ++ m) ∙ nearest_append p (nearest p b (part Background r)) n m)

-- whether a view has a row, and where
row_stands : (v : ℕ) (rs : List Row) → ltb (position_or_len (λ r. eqb r.view v) rs) (length rs) ≡ has_row v rs
row_stands v [] = refl
row_stands v (r ∷ rs) =
    let n = position_or_len (λ s. eqb s.view v) rs in
    elim (cases_Bool (eqb r.view v)) [
      | inl t ↦ rw t (lt-ltb 0 (suc (length rs)) (omega arith))
      | inr f ↦ rw f (elim (cases_lt n (length rs)) [
        | inl h ↦ lt-ltb (1 + n) (suc (length rs)) (omega arith) ∙ (sym (lt-ltb n (length rs) h) ∙ row_stands v rs)
        | inr h ↦ le-ltb (1 + n) (suc (length rs)) (omega arith) ∙ (sym (le-ltb n (length rs) h) ∙ row_stands v rs)
      ])
    ]

some_if : (b : Bool) (n : ℕ) → is_some (cond b (Some n) None) ≡ b
some_if true n = refl
some_if false n = refl

pub row_absent : (v : ℕ) (rs : List Row) → position (λ r. eqb r.view v) rs ≡ None → has_row v rs ≡ false
row_absent v rs e = sym (row_stands v rs) ∙ (sym (some_if (ltb (position_or_len (λ r. eqb r.view v) rs) (length rs)) (position_or_len (λ r. eqb r.view v) rs)) ∙ ap is_some e)

pub row_found : (v : ℕ) (rs : List Row) (i : ℕ) (d : Row) → position (λ r. eqb r.view v) rs ≡ Some i → (i < length rs) × ((get_or rs i d).view ≡ v)
row_found v rs i d e =
    let s = position-Some (λ r. eqb r.view v) rs i d e in
    (s.0, eqb-true (get_or rs i d).view v s.1)

-- whether an ask is open
pub open_in_row : (v : ℕ) (a : Ask) (rs : List Row) (i : ℕ) (d : Row) → views_apart rs ≡ true → position (λ r. eqb r.view v) rs ≡ Some i → has a (get_or rs i d) ≡ is_some (lookup (place v a) (sorted (asks_of rs)))
open_in_row v a rs i d e p =
    let f = row_found v rs i d p in
    sym (in_row v a rs i d e f.0 f.1) ∙ ap is_some (sym ((in_order (asks_of rs)).1 (place v a)))

pub open_nowhere : (v : ℕ) (a : Ask) (rs : List Row) → position (λ r. eqb r.view v) rs ≡ None → false ≡ is_some (lookup (place v a) (sorted (asks_of rs)))
open_nowhere v a rs p = ap is_some (sym ((in_order (asks_of rs)).1 (place v a) ∙ no_row v a rs (row_absent v rs p)))

pub background_counted : (rs : List Row) → views_apart rs ≡ true → length (filter (has Background) rs) ≡ length (backgrounds (sorted (asks_of rs)))
background_counted rs e = sym (counted_alike (λ o. is_background o.ask) (asks_of rs) (distinct_rows rs e) ∙ background_rows rs)

-- both counts of the asks in order
pub counted_rows : (rs : List Row) → views_apart rs ≡ true → record { background = length (filter (has Background) rs); ancestry = length (filter (has (Ancestry Nullification)) rs) + length (filter (has (Ancestry Notarization)) rs) } ≡ counted (sorted (asks_of rs))
counted_rows rs e =
    let d = distinct_rows rs e in
    let b = background_counted rs e in
    let a : length (filter (has (Ancestry Nullification)) rs) + length (filter (has (Ancestry Notarization)) rs) ≡ length (ancestries (sorted (asks_of rs))) = sym (counted_alike (λ o. not (is_background o.ask)) (asks_of rs) d ∙ ancestry_rows rs) in
    cc

-- what there is room for, told by the asks in order
pub room_in_order : (v : ℕ) (a : Ask) (rs : List Row) → views_apart rs ≡ true → (is_background a ≡ true → is_some (lookup (place v a) (sorted (asks_of rs))) ≡ false → length (backgrounds (sorted (asks_of rs))) < 256) → (is_background a ≡ false → is_some (lookup (place v a) (sorted (asks_of rs))) ≡ false → length (ancestries (sorted (asks_of rs))) < 64) → Room v a rs
room_in_order v a rs e b c =
    let d = distinct_rows rs e in
    let same = ap is_some ((in_order (asks_of rs)).1 (place v a)) in
    record {
      background = λ t f. omega (arith, b t (same ∙ f), counted_alike (λ o. is_background o.ask) (asks_of rs) d);
      ancestry = λ t f. omega (arith, c t (same ∙ f), counted_alike (λ o. not (is_background o.ask)) (asks_of rs) d);
    }

pub set_rows : (v : ℕ) (a : Ask) (t : Option ℕ) (rows : List Row) (n i : ℕ) (d : Row) → n ≤ length rows → Fitting a t → Kept (take n rows) → Room v a (take n rows) → position (λ r. eqb r.view v) (take n rows) ≡ Some i → Kept (take n (set rows i (with_ask a t (get_or rows i d)))) × (sorted (asks_of (take n (set rows i (with_ask a t (get_or rows i d))))) ≡ placed (opened v a t) (sorted (asks_of (take n rows))))
set_rows v a t rows n i d le f k r p =
    let w = row_found v (take n rows) i d p in
    let low : i < n = omega (arith, w.0, length-take-le n rows le) in
    let same : get_or (take n rows) i d ≡ get_or rows i d = get_or-take n rows i d low in
    subst (λ x. Kept (take n (set rows i (with_ask a t x))) × (sorted (asks_of (take n (set rows i (with_ask a t x)))) ≡ placed (opened v a t) (sorted (asks_of (take n rows))))) same
    (rw (take-set-lt n rows i (with_ask a t (get_or (take n rows) i d)) low) (opened_in_row v a t (take n rows) i d f k r w.0 w.1))

pub push_rows : (v : ℕ) (a : Ask) (t : Option ℕ) (rows : List Row) (n : ℕ) → n < length rows → Fitting a t → Kept (take n rows) → Room v a (take n rows) → position (λ r. eqb r.view v) (take n rows) ≡ None → Kept (take (n + 1) (set rows n (with_ask a t (fresh v)))) × (sorted (asks_of (take (n + 1) (set rows n (with_ask a t (fresh v))))) ≡ placed (opened v a t) (sorted (asks_of (take n rows))))
push_rows v a t rows n h f k r p = rw (take_more_set rows n (with_ask a t (fresh v)) h) (opened_behind v a t (take n rows) f k r (row_absent v (take n rows) p))

pub closing : (q : Retire) (rows : List Row) (n : ℕ) → n ≤ length rows → take n (map (closed q) (take n rows) ++ drop n rows) ≡ map (closed q) (take n rows)
closing q rows n h =
    let m = map (closed q) (take n rows) in
    let long : length m ≡ n = length-map (take n rows) (closed q) ∙ length-take-le n rows h in
    take-append-le n m (drop n rows) (omega (arith, long)) ∙ take_all n m (omega (arith, long))

few_filter : (p q : Open → Bool) (os : List Open) → length (filter p (filter q os)) ≤ length (filter p os)
few_filter p q [] = omega arith
few_filter p q (x ∷ os) =
    let more = few_filter p q os in
    elim (cases_Bool (q x)) [
      | inl t ↦ rw t (elim (cases_Bool (p x)) [ inl u ↦ rw u (omega (arith, more)) | inr v ↦ rw v more ])
      | inr f ↦ rw f (elim (cases_Bool (p x)) [ inl u ↦ rw u (omega (arith, more)) | inr v ↦ rw v more ])
    ]

pub kept_closed : (q : Retire) (rs : List Row) → Kept rs → Kept (closed_rows q rs) × (sorted (asks_of (closed_rows q rs)) ≡ retired q (sorted (asks_of rs)))
kept_closed q rs k =
    let p : Open → Bool = λ o. not (retires q o) in
    let same = close_asks q rs in
    let d = distinct_rows rs k.apart in
    let kept : Kept (closed_rows q rs) = record {
      apart = views_closed q rs k.apart;
      filled = full_closed q rs;
      background_few = omega (arith, ap (λ os. length (backgrounds os)) same, few_filter (λ o. is_background o.ask) p (asks_of rs), k.background_few);
      ancestry_few = omega (arith, ap (λ os. length (ancestries os)) same, few_filter (λ o. not (is_background o.ask)) p (asks_of rs), k.ancestry_few);
    } in
    (kept, ap sorted same ∙ (filtered p (asks_of rs) d).0)

absent_take : (v : ℕ) (rs : List Row) (n : ℕ) → has_row v rs ≡ false → has_row v (take n rs) ≡ false
absent_take v [] zero e = refl
absent_take v [] (suc n) e = refl
absent_take v (r ∷ rs) zero e = refl
absent_take v (r ∷ rs) (suc n) e = elim (cases_Bool (eqb r.view v)) [
  | inl t ↦ let bad : has_row v (r ∷ rs) ≡ true = rw t refl in absurd (cc)
  | inr f ↦ rw f (absent_take v rs n (rw f at e))
]

-- the first that passes among the asks of the first rows, and one more
views_take : (rs : List Row) (n : ℕ) → views_apart rs ≡ true → views_apart (take n rs) ≡ true
views_take [] zero e = refl
views_take [] (suc n) e = refl
views_take (r ∷ rs) zero e = refl
views_take (r ∷ rs) (suc n) e =
    let parts = and_parts (not (has_row r.view rs)) (views_apart rs) e in
    and_from (not (has_row r.view (take n rs))) (views_apart (take n rs)) (ap not (absent_take r.view rs n (not-true (has_row r.view rs) parts.0))) (views_take rs n parts.1)

pub first_more : (p : Open → Bool) (rs : List Row) (i : ℕ) (d : Row) → views_apart rs ≡ true → i < length rs → first_of (filter p (sorted (asks_of (take (i + 1) rs)))) ≡ nearest p (first_of (filter p (sorted (asks_of (take i rs))))) (asks_in (get_or rs i d))
first_more p rs i d e h =
    let s = get_or rs i d in
    let split : asks_of (take (i + 1) rs) ≡ asks_of (take i rs) ++ asks_in s = ap asks_of (take_more rs i d h) ∙ (asks_append (take i rs) (s ∷ []) ∙ ap (λ xs. asks_of (take i rs) ++ xs) (append-nil (asks_in s))) in
    let d' = distinct_rows (take (i + 1) rs) (views_take rs (i + 1) e) in
    ap (λ os. first_of (filter p (sorted os))) split ∙ nearest_sorted p (asks_of (take i rs)) (asks_in s) (subst (λ os. distinct os ≡ true) split d')
