-- The place of a view among rows that ascend.
use Rattle.std.proofs.Common.{◌≡◌, ℕ, zero, suc, ◌+◌, ◌-◌, ◌<◌, ◌≤◌, Bool, true, false, not, eqb, ltb, leb, List, [], ◌∷◌, ◌++◌, length, get_or, slice_get, take, drop, set, is_some, Some, None, filter, Result, Ok, Err, MatchResult, sym, refl, ap, ◌∙◌, subst, inl, inr, arith}
use Rattle.std.specs.List.{copy_within, insert, remove}
use Rattle.std.specs.List.Sorted.{IsSearchInRange, IsBinarySearchResult, IsNonDecreasingBy, IsPartitionPoint, IsPartitionedBy}
use Rattle.std.specs.Ordering.{nat_cmp, ordering_index}
use Rattle.std.proofs.lemmas.Cmp.{ranked}
use Rattle.std.proofs.lemmas.Bool.Decides.{nat_tests}
use Rattle.std.proofs.lemmas.List.{get_or-map, get_or_default, length-take-le, set_split, take-take}
use Rattle.std.proofs.lemmas.Bool.{cases_Bool, cases_eq, cases_lt, both_ways, cond-true, cond-false, eq-eqb, ne_eqb, lt-ltb, le-ltb, ltb-true, le-leb, lt-leb, leb-true, leb-false, ltb-false, not-true, not-false, not_from_true, not_from_false, or_left, or_right, or_from}
use Rattle.table.proofs.Shifts.{take_set_any, moved_above, cut_is, cut_off_is, put_is}
use Rattle.table.specs.Rows.{last_of, views, Ascending, lookup, holds, highest, without, below, beyond, with_row, has_room, kept, Parts, Here, Gap}

-- what a filter keeps of a list that it parts at a place
kept_all : {X : Type 0} (p : X → Bool) (xs : List X) → ((k : ℕ) (d : X) → k < length xs → p (get_or xs k d) ≡ true) → filter p xs ≡ xs
kept_all p [] t = refl
kept_all p (x ∷ xs) t = cond-true (p x) (x ∷ filter p xs) (filter p xs) (t 0 x (omega arith)) ∙ ap (λ l. x ∷ l) (kept_all p xs (λ k d h. t (suc k) d (omega arith)))

kept_none : {X : Type 0} (p : X → Bool) (xs : List X) → ((k : ℕ) (d : X) → k < length xs → p (get_or xs k d) ≡ false) → filter p xs ≡ []
kept_none p [] f = refl
kept_none p (x ∷ xs) f = cond-false (p x) (x ∷ filter p xs) (filter p xs) (f 0 x (omega arith)) ∙ kept_none p xs (λ k d h. f (suc k) d (omega arith))

kept_front : {X : Type 0} (p : X → Bool) (xs : List X) (i : ℕ) → ((k : ℕ) (d : X) → k < i → k < length xs → p (get_or xs k d) ≡ true) → ((k : ℕ) (d : X) → i ≤ k → k < length xs → p (get_or xs k d) ≡ false) → filter p xs ≡ take i xs
kept_front p [] zero t f = refl
kept_front p [] (suc i) t f = refl
kept_front p (x ∷ xs) zero t f = kept_none p (x ∷ xs) (λ k d h. f k d (omega arith) h)
kept_front p (x ∷ xs) (suc i) t f = cond-true (p x) (x ∷ filter p xs) (filter p xs) (t 0 x (omega arith) (omega arith)) ∙ ap (λ l. x ∷ l) (kept_front p xs i (λ k d h l. t (suc k) d (omega arith) (omega arith)) (λ k d h l. f (suc k) d (omega arith) (omega arith)))

kept_back : {X : Type 0} (p : X → Bool) (xs : List X) (i : ℕ) → ((k : ℕ) (d : X) → k < i → k < length xs → p (get_or xs k d) ≡ false) → ((k : ℕ) (d : X) → i ≤ k → k < length xs → p (get_or xs k d) ≡ true) → filter p xs ≡ drop i xs
kept_back p [] zero t f = refl
kept_back p [] (suc i) t f = refl
kept_back p (x ∷ xs) zero t f = kept_all p (x ∷ xs) (λ k d h. f k d (omega arith) h)
kept_back p (x ∷ xs) (suc i) t f = cond-false (p x) (x ∷ filter p xs) (filter p xs) (t 0 x (omega arith) (omega arith)) ∙ kept_back p xs i (λ k d h l. t (suc k) d (omega arith) (omega arith)) (λ k d h l. f (suc k) d (omega arith) (omega arith))

kept_but : {X : Type 0} (p : X → Bool) (xs : List X) (i : ℕ) → i < length xs → ((k : ℕ) (d : X) → (k ≡ i → ⊥) → k < length xs → p (get_or xs k d) ≡ true) → ((d : X) → p (get_or xs i d) ≡ false) → filter p xs ≡ remove xs i
kept_but p [] i h t f = absurd (omega arith)
kept_but p (x ∷ xs) zero h t f = cond-false (p x) (x ∷ filter p xs) (filter p xs) (f x) ∙ kept_all p xs (λ k d l. t (suc k) d (λ e. omega arith) (omega arith))
kept_but p (x ∷ xs) (suc i) h t f = cond-true (p x) (x ∷ filter p xs) (filter p xs) (t 0 x (λ e. omega arith) (omega arith)) ∙ ap (λ l. x ∷ l) (kept_but p xs i (omega arith) (λ k d n l. t (suc k) d (λ e. n (omega arith)) (omega arith)) f)

module _ {R : Type 0} (at : R → ℕ) where
  -- the view of a row, in the list of views
  pub view_of : (rs : List R) (k : ℕ) (d : R) → k < length rs → get_or (views at rs) k 0 ≡ at (get_or rs k d)
  view_of rs k d h = get_or-map at rs k d 0 h

  -- a later row lies no lower
  pub rises : (rs : List R) → Ascending at rs → (i j : ℕ) → i ≤ j → j < length rs → get_or (views at rs) i 0 ≤ get_or (views at rs) j 0
  rises rs asc i j le h = elim (cases_eq i j) [ inl e ↦ rw e (omega arith) | inr ne ↦ omega (arith, asc i j (omega arith) h) ]

  -- the place of a view: the rows from it on are at or above the view
  module _ (rs : List R) (v i : ℕ) (q : Parts at (leb v) rs i) where
    lower : (k : ℕ) → k < i → get_or (views at rs) k 0 < v
    lower k h = leb-false v _ (q.before k h)

    upper : (k : ℕ) → i ≤ k → k < length rs → v ≤ get_or (views at rs) k 0
    upper k h l = leb-true v _ (q.after k h l)

    below_is : below at v rs ≡ take i rs
    below_is =
        kept_front (λ r. ltb (at r) v) rs i
        (λ k d h l. let e = view_of rs k d l in lt-ltb (at (get_or rs k d)) v (omega (arith, lower k h)))
        (λ k d h l. let e = view_of rs k d l in le-ltb (at (get_or rs k d)) v (omega (arith, upper k h l)))

    -- no row of the view stands at its place, nor anywhere else
    module _ (asc : Ascending at rs) (gap : i < length rs → get_or (views at rs) i 0 ≡ v → ⊥) where
      absent : (k : ℕ) → k < length rs → get_or (views at rs) k 0 ≡ v → ⊥
      absent k l e = elim (cases_lt k i) [
        | inl h ↦ omega (arith, lower k h)
        | inr h ↦ elim (cases_eq k i) [ inl s ↦ gap (omega arith) (ap (λ j. get_or (views at rs) j 0) (sym s) ∙ e) | inr s ↦ omega (arith, asc i k (omega arith) l, upper i (omega arith) (omega arith)) ]
      ]

      pub lookup_absent : lookup at v rs ≡ None
      unfolding lookup
      lookup_absent = go rs absent
        where
          go : (xs : List R) → ((k : ℕ) → k < length xs → get_or (views at xs) k 0 ≡ v → ⊥) → lookup at v xs ≡ None
          go [] n = refl
          go (x ∷ xs) n = cond-false (eqb (at x) v) (Some x) (lookup at v xs) (ne_eqb (at x) v (n 0 (omega arith))) ∙ go xs (λ k l. n (suc k) (omega arith))

      pub put_absent : (r : R) → at r ≡ v → insert rs i r ≡ with_row at r rs
      unfolding with_row
      put_absent r e =
          let b = ap (λ n. below at n rs) e ∙ below_is in
          let o : beyond at v rs ≡ drop i rs = kept_back (λ s. ltb v (at s)) rs i
          (λ k d h l. let s = view_of rs k d l in le-ltb v (at (get_or rs k d)) (omega (arith, lower k h)))
          (λ k d h l. let s = view_of rs k d l in let ne = absent k l in lt-ltb v (at (get_or rs k d)) (omega (arith, upper k h l))) in
          let a = ap (λ n. beyond at n rs) e ∙ o in
          λ j. sym b j ++ r ∷ sym a j

      pub without_absent : without at v rs ≡ rs
      unfolding without
      without_absent = kept_all (λ r. not (eqb (at r) v)) rs (λ k d l. let e = view_of rs k d l in not_from_false (eqb (at (get_or rs k d)) v) (ne_eqb (at (get_or rs k d)) v (λ s. absent k l (e ∙ s))))

    -- a row of the view stands at its place
    module _ (asc : Ascending at rs) (within : i < length rs) (is : get_or (views at rs) i 0 ≡ v) where
      pub lookup_present : (x : R) → x ≡ get_or rs i x → lookup at v rs ≡ Some x
      unfolding lookup
      lookup_present x e = go rs i lower within e (sym (view_of rs i x within) ∙ is)
        where
          go : (xs : List R) (j : ℕ) → ((k : ℕ) → k < j → get_or (views at xs) k 0 < v) → j < length xs → x ≡ get_or xs j x → at (get_or xs j x) ≡ v → lookup at v xs ≡ Some x
          go [] j b l f w = absurd (omega arith)
          go (y ∷ xs) zero b l f w = cond-true (eqb (at y) v) (Some y) (lookup at v xs) (eq-eqb (at y) v w) ∙ ap Some (sym f)
          go (y ∷ xs) (suc j) b l f w = cond-false (eqb (at y) v) (Some y) (lookup at v xs) (ne_eqb (at y) v (λ s. omega (arith, b 0 (omega arith)))) ∙ go xs j (λ k h. b (suc k) (omega arith)) (omega arith) f w

      pub set_present : (r : R) → at r ≡ v → set rs i r ≡ with_row at r rs
      unfolding with_row
      set_present r e =
          let b = ap (λ n. below at n rs) e ∙ below_is in
          let o : beyond at v rs ≡ drop (suc i) rs = kept_back (λ s. ltb v (at s)) rs (suc i)
          (λ k d h l. let s = view_of rs k d l in le-ltb v (at (get_or rs k d)) (elim (cases_eq k i) [ inl z ↦ omega (arith, ap (λ j. get_or (views at rs) j 0) z) | inr z ↦ omega (arith, lower k (omega arith)) ]))
          (λ k d h l. let s = view_of rs k d l in lt-ltb v (at (get_or rs k d)) (omega (arith, asc i k (omega arith) l))) in
          let a = ap (λ n. beyond at n rs) e ∙ o in
          set_split rs i r within ∙ (λ j. sym b j ++ r ∷ sym a j)

      pub cut_present : remove rs i ≡ without at v rs
      unfolding without
      cut_present = sym (kept_but (λ r. not (eqb (at r) v)) rs i within
          (λ k d n l. let e = view_of rs k d l in not_from_false (eqb (at (get_or rs k d)) v) (ne_eqb (at (get_or rs k d)) v (λ s. elim (cases_lt k i) [ inl h ↦ omega (arith, lower k h) | inr h ↦ omega (arith, asc i k (omega arith) l) ])))
          (λ d. not_from_true (eqb (at (get_or rs i d)) v) (eq-eqb (at (get_or rs i d)) v (sym (view_of rs i d within) ∙ is))))

  -- what an order keeps stands from the first that it keeps
  pub kept_is : (p : ℕ → Bool) (rs : List R) (i : ℕ) → Parts at p rs i → kept at p rs ≡ drop i rs
  unfolding kept
  kept_is p rs i q =
      kept_back (λ r. p (at r)) rs i
      (λ k d h l. sym (ap p (view_of rs k d l)) ∙ q.before k h)
      (λ k d h l. sym (ap p (view_of rs k d l)) ∙ q.after k h l)

  last_read : (xs : List R) → last_of xs ≡ slice_get xs (length xs - 1)
  last_read [] = refl
  last_read (x ∷ []) = refl
  last_read (x ∷ y ∷ ys) =
      let n : suc (suc (length ys)) - 1 ≡ suc (suc (length ys) - 1) = omega arith in
      last_read (y ∷ ys) ∙ sym (ap (slice_get (x ∷ y ∷ ys)) n)

  -- what lies at or below a view stands before the first row past it
  module _ (rs : List R) (v i : ℕ) (q : Parts at (ltb v) rs i) where
    front_is : filter (λ r. leb (at r) v) rs ≡ take i rs
    front_is =
        kept_front (λ r. leb (at r) v) rs i
        (λ k d h l. let e = view_of rs k d l in le-leb (at (get_or rs k d)) v (omega (arith, ltb-false v _ (q.before k h))))
        (λ k d h l. let e = view_of rs k d l in lt-leb (at (get_or rs k d)) v (omega (arith, ltb-true v _ (q.after k h l))))

    pub highest_is : highest at v rs ≡ slice_get (take i rs) (length (take i rs) - 1)
    unfolding highest
    highest_is = ap last_of front_is ∙ last_read (take i rs)

  -- whether there is room for a row
  module _ (rs : List R) (cap : ℕ) (row : R) (i : ℕ) (asc : Ascending at rs) where
    pub room_here : Here at (at row) rs i → true ≡ has_room at cap row rs
    room_here h =
        let found = lookup_present rs (at row) i h.parts asc h.within h.is (get_or rs i row) (get_or_default rs i row (get_or rs i row) h.within) in
        sym (or_left (holds at (at row) rs) (ltb (length rs) cap) (ap is_some found))

    pub room_free : length rs < cap → true ≡ has_room at cap row rs
    room_free l = sym (or_right (holds at (at row) rs) (ltb (length rs) cap) (lt-ltb (length rs) cap l))

    pub room_none : cap ≤ length rs → Gap at (at row) rs i → false ≡ has_room at cap row rs
    room_none l q = sym (or_from (holds at (at row) rs) (ltb (length rs) cap) (ap is_some (lookup_absent rs (at row) i q.parts asc q.none)) (le-ltb (length rs) cap l))

-- a row written over another among the first ones
pub written_over : {R : Type 0} (at : R → ℕ) (rows : List R) (len i : ℕ) (row : R) → Ascending at (take len rows) → Here at (at row) (take len rows) i → take len (set rows i row) ≡ with_row at row (take len rows)
written_over at rows len i row asc h = take_set_any rows len i row ∙ set_present at (take len rows) (at row) i h.parts asc h.within h.is row refl

-- the rows after a block of them moved within `rows`, which leaves `left`
module _ {R : Type 0} (at : R → ℕ) (rows left : List R) (len i : ℕ) (asc : Ascending at (take len rows)) (fits : len ≤ length rows) where
  long : length (take len rows) ≡ len
  long = length-take-le len rows fits

  -- a row put between those below its view and those above it
  pub put_between : (row : R) → Gap at (at row) (take len rows) i → len < length rows → left ≡ copy_within rows i len (i + 1) → take (len + 1) (set left i row) ≡ with_row at row (take len rows)
  put_between row q l e = ap (λ xs. take (len + 1) (set xs i row)) e ∙ put_is rows i len row (omega (arith, long, q.parts.within)) l ∙ put_absent at (take len rows) (at row) i q.parts asc q.none row refl

  pub below_place : (v : ℕ) → Gap at v (take len rows) i → len < length rows → left ≡ copy_within rows i len (i + 1) → take i left ≡ take i rows
  below_place v q l e =
      let w = q.parts.within in
      let less = sym (take-take i (i + 1) left (omega arith)) in
      less ∙ ap (λ xs. take i (take (i + 1) xs)) e ∙ ap (take i) (moved_above rows i len (i + 1) (omega (arith, long)) fits (omega (arith, long))) ∙ take-take i (i + 1) rows (omega arith)

  -- the row of a view cut out
  pub cut_out : (v : ℕ) → Here at v (take len rows) i → left ≡ copy_within rows (i + 1) len i → take (len - 1) left ≡ without at v (take len rows)
  cut_out v h e = ap (take (len - 1)) e ∙ cut_is rows i len (omega (arith, long, h.within)) fits ∙ cut_present at (take len rows) v i h.parts asc h.within h.is

  -- the rows below those that an order keeps cut off
  pub cut_off : (p : ℕ → Bool) → Parts at p (take len rows) i → left ≡ copy_within rows i len 0 → take (len - i) left ≡ kept at p (take len rows)
  cut_off p q e = ap (take (len - i)) e ∙ cut_off_is rows i len (omega (arith, long, q.within)) fits ∙ sym (kept_is at p (take len rows) i q)

-- a fact of a row that stands, told of its view
seen : {R : Type 0} (at : R → ℕ) (rs : List R) (k : ℕ) → k < length rs → (P : ℕ → Type 0) → ((d : R) → P (at (get_or rs k d))) → P (get_or (views at rs) k 0)
seen at [] k h P f = absurd (omega arith)
seen at (r ∷ rs) k h P f = subst P (sym (view_of at (r ∷ rs) k r h)) (f r)

-- the place that a search finds parts the rows
pub parts_found : {R : Type 0} (at : R → ℕ) (p : ℕ → Bool) (rs : List R) (i : ℕ) → i ≤ length rs → IsPartitionPoint (λ r. not (p (at r)) ≡ true) (λ r. not (p (at r)) ≡ false) rs i → Parts at p rs i
parts_found at p rs i l q = record {
  within = l;
  before = λ k h. seen at rs k (omega arith) (λ v. p v ≡ false) (λ d. not-true (p (at (get_or rs k d))) (q.0 k d (omega arith) h));
  after = λ k h m. seen at rs k m (λ v. p v ≡ true) (λ d. not-false (p (at (get_or rs k d))) (q.1 k d h m));
}

-- where a row is not kept, neither are the earlier ones
pub partitioned : {R : Type 0} (at : R → ℕ) (p : ℕ → Bool) → ((u v : ℕ) → u ≤ v → p u ≡ true → p v ≡ true) → (rs : List R) → Ascending at rs → IsPartitionedBy (λ r. not (p (at r))) rs
partitioned at p law rs asc i j d le h t = elim (cases_Bool (p (at (get_or rs i d)))) [
  | inl k ↦ let u = view_of at rs i d (omega arith) in let v = view_of at rs j d h in
      absurd (both_ways (p (at (get_or rs j d))) (not-true (p (at (get_or rs j d))) t) (law (at (get_or rs i d)) (at (get_or rs j d)) (omega (arith, rises at rs asc i j le h)) k))
  | inr f ↦ not_from_false (p (at (get_or rs i d))) f
]

-- what a binary search by the views finds, for rows that ascend
module _ {R : Type 0} (at : R → ℕ) (rs : List R) (asc : Ascending at rs) (v : ℕ) where
  comparisons_rise : IsNonDecreasingBy (λ r. ordering_index (nat_cmp (at r) v)) rs
  comparisons_rise i j d le h =
      let u = view_of at rs i d (omega arith) in
      let w = view_of at rs j d h in
      let up : at (get_or rs i d) ≤ at (get_or rs j d) = omega (arith, rises at rs asc i j le h) in
      grind (arith, nat_tests)

  pub searched : (r : Result ℕ ℕ) → IsSearchInRange r (length rs) → IsBinarySearchResult (λ x. nat_cmp (at x) v) rs r → MatchResult r (Here at v rs) (Gap at v rs)
  searched (Ok i) within equal =
      let is = seen at rs i within (λ u. u ≡ v) (λ d. ranked (at (get_or rs i d)) v _ (sym (equal d))) in
      record {
        parts = record {
          within = omega (arith, within);
          before = λ k h. lt-leb v (get_or (views at rs) k 0) (omega (arith, is, asc k i h within));
          after = λ k h l. le-leb v (get_or (views at rs) k 0) (omega (arith, is, rises at rs asc i k h l));
        };
        within = within;
        is = is;
      }
  searched (Err i) within parted =
      let p = parted comparisons_rise in
      record {
        parts = record {
          within = within;
          before = λ k h. seen at rs k (omega arith) (λ u. leb v u ≡ false) (λ d. lt-leb v (at (get_or rs k d)) (ranked (at (get_or rs k d)) v _ (sym (p.0 k d (omega arith) h))));
          after = λ k h l. seen at rs k l (λ u. leb v u ≡ true) (λ d. le-leb v (at (get_or rs k d)) (omega (arith, ranked (at (get_or rs k d)) v _ (sym (p.1 k d h l)))));
        };
        none = λ l e. seen at rs i l (λ u. u ≡ v → ⊥) (λ d same. omega (arith, ranked (at (get_or rs i d)) v _ (sym (p.1 i d (omega arith) l)))) e;
      }
