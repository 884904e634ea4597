-- What is found at each view after each change.
use Rattle.std.proofs.Common.{◌≡◌, ℕ, ◌+◌, ◌<◌, ◌≤◌, Bool, true, cond, not, eqb, ltb, leb, List, [], ◌∷◌, ◌++◌, length, get_or, is_some, Some, None, filter, Option, sym, refl, ap, ◌∙◌, subst, inl, inr, arith, MatchOption}
use Rattle.std.specs.List.{AllByRecursion as All}
use Rattle.std.proofs.ByRecursion.{All-weaker, kept_by_passes}
use Rattle.std.proofs.lemmas.List.Filters.{length-filter_both}
use Rattle.std.proofs.lemmas.List.{length-append}
use Rattle.std.proofs.lemmas.Bool.{cases_Bool, cases_eq, cases_lt, cond-true, cond-false, eq-eqb, ne_eqb, eqb-true, lt-ltb, le-ltb, le-leb, lt-leb, leb-true}
use Rattle.table.specs.Rows.{last_of, views, Ascending, lookup, holds, highest, without, below, beyond, with_row, kept, Parts}
use Rattle.table.specs.Laws.{NothingFound, OfItsView, FoundItself, Nearest, OneMore, Counted, OneLess, OnlyKept, NoMore}
use Rattle.table.proofs.Placing.{view_of, rises, lookup_present}
use Rattle.table.proofs.Rising.{Up, up_from, up_kept}

module _ {R : Type 0} (at : R → ℕ) where
  pub nothing_found : NothingFound at []
  unfolding lookup
  nothing_found v = refl

  pub of_its_view : (v : ℕ) (rs : List R) → OfItsView at v (lookup at v rs)
  unfolding lookup
  of_its_view v [] = tt
  of_its_view v (r ∷ rs) = elim (cases_Bool (eqb (at r) v)) [ inl t ↦ rw t (eqb-true (at r) v t) | inr f ↦ rw f (of_its_view v rs) ]

  pub found_itself : (rs : List R) (i : ℕ) (placed : Option R) → Ascending at rs → MatchOption placed (length rs ≤ i) (λ r. (i < length rs) × (r ≡ get_or rs i r)) → FoundItself at rs placed
  found_itself rs i None asc h = tt
  found_itself rs i (Some r) asc h =
      let v = get_or (views at rs) i 0 in
      let parts : Parts at (leb v) rs i = record {
        within = omega (arith, h.0);
        before = λ k l. lt-leb v (get_or (views at rs) k 0) (asc k i l h.0);
        after = λ k l m. le-leb v (get_or (views at rs) k 0) (rises at rs asc i k l m);
      } in
      let own : at r ≡ v = ap at h.1 ∙ sym (view_of at rs i r h.0) in
      ap (λ u. lookup at u rs) own ∙ lookup_present at rs v i parts asc h.0 refl r h.1

  lookup_kept : (p : ℕ → Bool) (v : ℕ) (rs : List R) → lookup at v (filter (λ r. p (at r)) rs) ≡ cond (p v) (lookup at v rs) None
  unfolding lookup
  lookup_kept p v [] = elim (cases_Bool (p v)) [ inl t ↦ rw t refl | inr f ↦ rw f refl ]
  lookup_kept p v (r ∷ rs) =
      let more = lookup_kept p v rs in
      elim (cases_Bool (eqb (at r) v)) [
        | inl same ↦ let e : p (at r) ≡ p v = ap p (eqb-true (at r) v same) in
            elim (cases_Bool (p (at r))) [ inl t ↦ rw t (rw same (rw (sym e ∙ t) refl)) | inr f ↦ rw f (more ∙ rw (sym e ∙ f) refl) ]
        | inr other ↦ elim (cases_Bool (p (at r))) [ inl t ↦ rw t (rw other more) | inr f ↦ rw f (rw other more) ]
      ]

  pub only_kept : (p : ℕ → Bool) (rs : List R) → OnlyKept at p rs (kept at p rs)
  unfolding kept
  only_kept p rs v = lookup_kept p v rs

  pub one_less : (u : ℕ) (rs : List R) → OneLess at u rs (without at u rs)
  unfolding without
  one_less u rs v =
      lookup_kept (λ n. not (eqb n u)) v rs ∙ elim (cases_eq v u) [
        | inl e ↦ rw (eq-eqb v u e) (rw (eq-eqb u v (sym e)) refl)
        | inr n ↦ rw (ne_eqb v u n) (rw (ne_eqb u v (λ e. n (sym e))) refl)
      ]

  lookup_append : (v : ℕ) (xs ys : List R) → lookup at v (xs ++ ys) ≡ cond (is_some (lookup at v xs)) (lookup at v xs) (lookup at v ys)
  unfolding lookup
  lookup_append v [] ys = refl
  lookup_append v (x ∷ xs) ys = elim (cases_Bool (eqb (at x) v)) [ inl t ↦ rw t refl | inr f ↦ rw f (lookup_append v xs ys) ]

  or_none : (found : Option R) → cond (is_some found) found None ≡ found
  or_none None = refl
  or_none (Some r) = refl

  pub one_more : (r : R) (rs : List R) → OneMore at true r rs (with_row at r rs)
  unfolding lookup with_row
  one_more r rs v =
      lookup_append v (below at (at r) rs) (r ∷ beyond at (at r) rs) ∙ rw (lookup_kept (λ u. ltb u (at r)) v rs) (rw (lookup_kept (λ u. ltb (at r) u) v rs) (elim (cases_eq (at r) v) [
        | inl e ↦ rw (le-ltb v (at r) (omega arith)) (rw (eq-eqb (at r) v e) refl)
        | inr n ↦ rw (ne_eqb (at r) v n) (elim (cases_lt v (at r)) [
          | inl h ↦ rw (lt-ltb v (at r) h) (rw (le-ltb (at r) v (omega arith)) (or_none (lookup at v rs)))
          | inr h ↦ rw (le-ltb v (at r) h) (rw (lt-ltb (at r) v (omega arith)) refl)
        ])
      ]))

  -- the last of some rows: it is found, and nothing above it is
  record Last (v : ℕ) (x : R) (xs : List R) : Type 0 where
    row : R
    is : last_of (x ∷ xs) ≡ Some row
    fits : at row ≤ v
    first : at x ≤ at row
    found : lookup at (at row) (x ∷ xs) ≡ Some row
    above : (u : ℕ) → at row < u → lookup at u (x ∷ xs) ≡ None

  last_of_lem : (v : ℕ) (x : R) (xs : List R) → Up at (x ∷ xs) → All (λ r. at r ≤ v) (x ∷ xs) → Last v x xs
  unfolding lookup
  last_of_lem v x [] up low = record {
    row = x;
    is = refl;
    fits = low.0;
    first = omega arith;
    found = cond-true (eqb (at x) (at x)) (Some x) None (eq-eqb (at x) (at x) refl);
    above = λ u h. cond-false (eqb (at x) u) (Some x) None (ne_eqb (at x) u (λ e. omega arith));
  }
  last_of_lem v x (y ∷ ys) up low =
      let l = last_of_lem v y ys up.1 low.1 in
      let over = up.0.0 in
      record {
        row = l.row;
        is = l.is;
        fits = l.fits;
        first = omega (arith, l.first);
        found = cond-false (eqb (at x) (at l.row)) (Some x) (lookup at (at l.row) (y ∷ ys)) (ne_eqb (at x) (at l.row) (λ e. omega (arith, l.first))) ∙ l.found;
        above = λ u h. cond-false (eqb (at x) u) (Some x) (lookup at u (y ∷ ys)) (ne_eqb (at x) u (λ e. omega (arith, l.first))) ∙ l.above u h;
      }

  pub nearest : (v : ℕ) (rs : List R) → Ascending at rs → Nearest at v rs (highest at v rs)
  unfolding highest
  nearest v rs asc = go (filter (λ r. leb (at r) v) rs) (up_kept at (λ r. leb (at r) v) rs (up_from at rs asc)) (All-weaker (λ r. leb (at r) v ≡ true) (λ r. at r ≤ v) (λ r h. leb-true (at r) v h) (filter (λ r. leb (at r) v) rs) (kept_by_passes (λ r. leb (at r) v) rs)) (λ u h. sym (lookup_kept (λ n. leb n v) u rs ∙ cond-true (leb u v) (lookup at u rs) None (le-leb u v h)))
    where
      go : (xs : List R) → Up at xs → All (λ r. at r ≤ v) xs → ((u : ℕ) → u ≤ v → lookup at u rs ≡ lookup at u xs) → Nearest at v rs (last_of xs)
      go [] up low same = λ u h. same u h ∙ nothing_found u
      go (x ∷ xs) up low same =
          let l = last_of_lem v x xs up low in
          subst (Nearest at v rs) (sym l.is) (l.fits, same (at l.row) l.fits ∙ l.found, λ u lo hi. same u hi ∙ l.above u lo)

  kept_no_more : (p : R → Bool) (rs : List R) → length (filter p rs) ≤ length rs
  kept_no_more p rs = omega (arith, length-filter_both p (λ r. not (p r)) (λ r. refl) rs)

  pub no_more_kept : (p : ℕ → Bool) (rs : List R) → NoMore rs (kept at p rs)
  unfolding kept
  no_more_kept p rs = kept_no_more (λ r. p (at r)) rs

  pub no_more_without : (v : ℕ) (rs : List R) → NoMore rs (without at v rs)
  unfolding without
  no_more_without v rs = kept_no_more (λ r. not (eqb (at r) v)) rs

  none_above : (v : ℕ) (rs : List R) → All (λ r. v < at r) rs → lookup at v rs ≡ None
  unfolding lookup
  none_above v [] a = refl
  none_above v (r ∷ rs) a = cond-false (eqb (at r) v) (Some r) (lookup at v rs) (ne_eqb (at r) v (λ e. omega (arith, a.0))) ∙ none_above v rs a.1

  -- the rows below a view, those above it, and the one of the view are all
  parted : (v : ℕ) (rs : List R) → Up at rs → length (below at v rs) + length (beyond at v rs) + cond (holds at v rs) 1 0 ≡ length rs
  unfolding lookup
  parted v [] up = refl
  parted v (r ∷ rs) up =
      let more = parted v rs up.1 in
      elim (cases_eq (at r) v) [
        | inl e ↦ let none = none_above v rs (subst (λ n. All (λ s. n < at s) rs) e up.0) in
            let m : length (below at v rs) + length (beyond at v rs) + 0 ≡ length rs = subst (λ o. length (below at v rs) + length (beyond at v rs) + cond (is_some o) 1 0 ≡ length rs) none more in
            rw (eq-eqb (at r) v e) (rw (le-ltb (at r) v (omega arith)) (rw (le-ltb v (at r) (omega arith)) (omega arith)))
        | inr n ↦ rw (ne_eqb (at r) v n) (elim (cases_lt (at r) v) [
          | inl h ↦ rw (lt-ltb (at r) v h) (rw (le-ltb v (at r) (omega arith)) (omega arith))
          | inr h ↦ rw (le-ltb (at r) v h) (rw (lt-ltb v (at r) (omega arith)) (omega arith))
        ])
      ]

  pub counted : (r : R) (rs : List R) → Ascending at rs → Counted at true r rs (with_row at r rs)
  unfolding with_row
  counted r rs asc =
      let all = parted (at r) rs (up_from at rs asc) in
      let sum = length-append (below at (at r) rs) (r ∷ beyond at (at r) rs) in
      elim (cases_Bool (holds at (at r) rs)) [
        | inl t ↦ let a : length (below at (at r) rs) + length (beyond at (at r) rs) + 1 ≡ length rs = subst (λ b. length (below at (at r) rs) + length (beyond at (at r) rs) + cond b 1 0 ≡ length rs) t all in rw t (omega arith)
        | inr f ↦ let a : length (below at (at r) rs) + length (beyond at (at r) rs) + 0 ≡ length rs = subst (λ b. length (below at (at r) rs) + length (beyond at (at r) rs) + cond b 1 0 ≡ length rs) f all in rw f (omega arith)
      ]
