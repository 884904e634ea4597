-- The gaps of a span, and how they part at its first view.
use Rattle.std.proofs.Common.{◌≡◌, ℕ, zero, suc, ◌+◌, ◌-◌, ◌<◌, ◌≤◌, Bool, true, false, cond, not, ◌&&◌, ◌||◌, eqb, List, [], ◌∷◌, ◌++◌, length, Decides, filter, sym, refl, ap, ◌∙◌, inl, inr, arith}
use Rattle.std.specs.List.{AllByRecursion as All}
use Rattle.std.proofs.lemmas.List.Elements.{filter-append}
use Rattle.std.proofs.lemmas.List.{length-append}
use Rattle.std.proofs.lemmas.Bool.{both_ways, false≢true, not-true, cases_lt, cases_Bool, cases_eq, eq-eqb, ne_eqb, eqb-true, and_parts, and_from, and_left, or_cases, or_left, or_right, not_from_false}
use Rattle.terms.specs.Terms.{start, next, is_start}
use Rattle.terms.proofs.Laws.{own_term, least_next, starts_itself}
use Rattle.planning.specs.Gaps.{counted, span, among, anchor, gaps}
use Rattle.planning.specs.Laws.{GapsExactly, Extends, NoGrowth, SameGaps, NoGaps}

span_none : (low high : ℕ) → high ≤ low → span low high ≡ []
span_none low high h = let e : high - low ≡ 0 = omega arith in ap (counted low) e

span_more : (low high : ℕ) → low < high → span low high ≡ low ∷ span (low + 1) high
span_more low high h = let e : high - low ≡ suc (high - (low + 1)) = omega arith in ap (counted low) e

counted_parts : (low m n : ℕ) → counted low (m + n) ≡ counted low m ++ counted (low + m) n
counted_parts low zero n = let e : 0 + n ≡ n = omega arith in let z : low + 0 ≡ low = omega arith in rw (e, z) refl
counted_parts low (suc m) n =
    let e : suc m + n ≡ suc (m + n) = omega arith in
    let z : low + 1 + m ≡ low + suc m = omega arith in
    ap (counted low) e ∙ ap (λ xs. low ∷ xs) (counted_parts (low + 1) m n ∙ ap (λ k. counted (low + 1) m ++ counted k n) z)

-- a span parts at each view within it
span_parts : (low mid high : ℕ) → low ≤ mid → mid ≤ high → span low high ≡ span low mid ++ span mid high
span_parts low mid high h k =
    let e : high - low ≡ (mid - low) + (high - mid) = omega arith in
    let z : low + (mid - low) ≡ mid = omega arith in
    ap (counted low) e ∙ counted_parts low (mid - low) (high - mid) ∙ ap (λ n. counted low (mid - low) ++ counted n (high - mid)) z

all_counted : (P : ℕ → Type 0) (low n : ℕ) → ((v : ℕ) → low ≤ v → v < low + n → P v) → All P (counted low n)
all_counted P low zero all = tt
all_counted P low (suc n) all = (all low (omega arith) (omega arith), all_counted P (low + 1) n (λ v h k. all v (omega arith) (omega arith)))

-- what holds from `low` up to `high` holds in the span
all_span : (P : ℕ → Type 0) (low high : ℕ) → ((v : ℕ) → low ≤ v → v < high → P v) → All P (span low high)
all_span P low high all = all_counted P low (high - low) (λ v h k. all v h (omega arith))

-- tests that agree keep the same
kept_same : (p q : ℕ → Bool) (xs : List ℕ) → All (λ v. p v ≡ q v) xs → filter p xs ≡ filter q xs
kept_same p q [] same = refl
kept_same p q (x ∷ xs) same = rw same.0 (ap (λ ys. cond (q x) (x ∷ ys) ys) (kept_same p q xs same.1))

kept_none : (p : ℕ → Bool) (xs : List ℕ) → All (λ v. p v ≡ false) xs → filter p xs ≡ []
kept_none p [] none = refl
kept_none p (x ∷ xs) none = rw none.0 (kept_none p xs none.1)

-- a stronger test keeps no more
kept_fewer : (p q : ℕ → Bool) (xs : List ℕ) → All (λ v. p v ≡ true → q v ≡ true) xs → length (filter p xs) ≤ length (filter q xs)
kept_fewer p q [] weaker = omega arith
kept_fewer p q (x ∷ xs) weaker =
    let more = kept_fewer p q xs weaker.1 in
    elim (cases_Bool (p x)) [
      | inl t ↦ rw (t, weaker.0 t) (omega arith)
      | inr f ↦ rw f (elim (cases_Bool (q x)) [ inl t ↦ rw t (omega arith) | inr n ↦ rw n more ])
    ]

-- what is among the kept is among all, and passes the test
among_kept : (p : ℕ → Bool) (v : ℕ) (xs : List ℕ) → Decides (among v (filter p xs)) ((among v xs ≡ true) × (p v ≡ true))
among_kept p v [] = (λ t. absurd (false≢true t), λ h. h.0)
among_kept p v (x ∷ xs) =
    let more = among_kept p v xs in
    elim (cases_Bool (p x)) [
      | inl t ↦ rw t (
        λ h. elim (or_cases (eqb x v) (among v (filter p xs)) h) [
          | inl here ↦ (or_left _ _ here, ap p (sym (eqb-true x v here)) ∙ t)
          | inr later ↦ (or_right _ _ (more.0 later).0, (more.0 later).1)
        ],
        λ h. elim (or_cases (eqb x v) (among v xs) h.0) [ inl here ↦ or_left _ _ here | inr later ↦ or_right _ _ (more.1 (later, h.1)) ],
      )
      | inr f ↦ rw f (
        λ h. (or_right _ _ (more.0 h).0, (more.0 h).1),
        λ h. elim (or_cases (eqb x v) (among v xs) h.0) [ inl here ↦ absurd (both_ways (p v) (ap p (sym (eqb-true x v here)) ∙ f) h.1) | inr later ↦ more.1 (later, h.1) ],
      )
    ]

among_counted : (v low n : ℕ) → Decides (among v (counted low n)) ((low ≤ v) × (v < low + n))
among_counted v low zero = (λ t. absurd (false≢true t), λ h. absurd (omega (arith, h.0, h.1)))
among_counted v low (suc n) =
    let more = among_counted v (low + 1) n in (
      λ t. elim (or_cases (eqb low v) (among v (counted (low + 1) n)) t) [
        | inl here ↦ let e = eqb-true low v here in (omega arith, omega arith)
        | inr later ↦ let m = more.0 later in (omega arith, omega arith)
      ],
      λ h. elim (cases_eq low v) [
        | inl e ↦ or_left _ _ (eq-eqb low v e)
        | inr n ↦ or_right _ _ (more.1 (omega arith, omega arith))
      ],
    )

-- a span has the numbers from `low` up to `high`
among_span : (v low high : ℕ) → Decides (among v (span low high)) ((low ≤ v) × (v < high))
among_span v low high =
    let all = among_counted v low (high - low) in (
      λ t. let m = all.0 t in (omega arith, omega arith),
      λ h. all.1 (h.0, omega arith),
    )

some_among : (v : ℕ) (xs : List ℕ) → among v xs ≡ true → 1 ≤ length xs
some_among v [] t = absurd (false≢true t)
some_among v (x ∷ xs) t = omega arith

module _ (L : ℕ) (positive : 0 < L) (cov : ℕ → Bool) where
  -- a view, if nothing covers it
  abbrev open_at : ℕ → List ℕ
  open_at v = cond (cov v) [] (v ∷ [])

  -- the term starts from `low` up to `high` that nothing covers
  starts : ℕ → ℕ → List ℕ
  starts low high = filter (λ v. is_start L v && not (cov v)) (span low high)

  pub gaps_none : (low high : ℕ) → high ≤ low → gaps L cov low high ≡ []
  unfolding gaps
  gaps_none low high h = ap (filter (λ v. anchor L low v && not (cov v))) (span_none low high h)

  -- past the first view only term starts are looked at
  gaps_first : (low high : ℕ) → low < high → gaps L cov low high ≡ open_at low ++ starts (low + 1) high
  unfolding gaps starts
  gaps_first low high h =
      let p : ℕ → Bool = λ v. anchor L low v && not (cov v) in
      let q : ℕ → Bool = λ v. is_start L v && not (cov v) in
      let rest : filter p (span (low + 1) high) ≡ filter q (span (low + 1) high) = kept_same p q (span (low + 1) high) (all_span (λ v. p v ≡ q v) (low + 1) high (λ v l m. ap (λ b. (b || is_start L v) && not (cov v)) (ne_eqb v low (omega arith)))) in
      let here : p low ≡ not (cov low) = ap (λ b. (b || is_start L low) && not (cov low)) (eq-eqb low low refl) in
      ap (filter p) (span_more low high h) ∙ rw here (rw rest (elim (cases_Bool (cov low)) [ inl t ↦ rw t refl | inr f ↦ rw f refl ]))

  -- no term start lies between a view and the next
  starts_skip : (low high : ℕ) → starts (low + 1) high ≡ gaps L cov (next L low) high
  unfolding gaps starts
  starts_skip low high =
      let least = least_next L positive low in
      let p : ℕ → Bool = λ v. anchor L (next L low) v && not (cov v) in
      let q : ℕ → Bool = λ v. is_start L v && not (cov v) in
      let before : (v : ℕ) → low + 1 ≤ v → v < next L low → q v ≡ false = λ v l m. elim (cases_Bool (is_start L v)) [
        | inl t ↦ absurd (omega (arith, least.2 v (omega arith) t))
        | inr f ↦ and_left (is_start L v) (not (cov v)) f
      ] in
      elim (cases_lt (next L low) high) [
        | inl within ↦ ap (filter q) (span_parts (low + 1) (next L low) high (omega (arith, least.1)) (omega arith))
            ∙ filter-append q (span (low + 1) (next L low)) (span (next L low) high)
            ∙ ap (λ xs. xs ++ filter q (span (next L low) high)) (kept_none q (span (low + 1) (next L low)) (all_span (λ v. q v ≡ false) (low + 1) (next L low) before))
            ∙ kept_same q p (span (next L low) high) (all_span (λ v. q v ≡ p v) (next L low) high (λ v l m. elim (cases_eq v (next L low)) [
              | inl e ↦ let s : is_start L v ≡ true = ap (is_start L) e ∙ least.0 in rw (eq-eqb v (next L low) e, s) refl
              | inr n ↦ rw (ne_eqb v (next L low) n) refl
            ]))
        | inr past ↦ kept_none q (span (low + 1) high) (all_span (λ v. q v ≡ false) (low + 1) high (λ v l m. before v l (omega arith)))
            ∙ sym (ap (filter p) (span_none (next L low) high past))
      ]

  -- the gaps from a view on: itself, if nothing covers it, and the gaps from the next term start on
  gaps_more : (low high : ℕ) → low < high → gaps L cov low high ≡ open_at low ++ gaps L cov (next L low) high
  gaps_more low high h = gaps_first low high h ∙ ap (λ xs. open_at low ++ xs) (starts_skip low high)

  -- a covered view is no gap
  pub gaps_covered : (low high : ℕ) → low < high → cov low ≡ true → gaps L cov low high ≡ gaps L cov (next L low) high
  gaps_covered low high h t = rw t at (gaps_more low high h)

  pub gaps_open : (low high : ℕ) → low < high → cov low ≡ false → gaps L cov low high ≡ low ∷ gaps L cov (next L low) high
  gaps_open low high h f = rw f at (gaps_more low high h)

  starts_parts : (low mid high : ℕ) → low ≤ mid → mid ≤ high → starts low high ≡ starts low mid ++ starts mid high
  unfolding starts
  starts_parts low mid high h k =
      let q : ℕ → Bool = λ v. is_start L v && not (cov v) in
      ap (filter q) (span_parts low mid high h k) ∙ filter-append q (span low mid) (span mid high)

  some_start : (v low high : ℕ) → low ≤ v → v < high → is_start L v ≡ true → cov v ≡ false → 1 ≤ length (starts low high)
  unfolding starts
  some_start v low high h k s f =
      let q : ℕ → Bool = λ v. is_start L v && not (cov v) in
      some_among v (starts low high) ((among_kept q v (span low high)).1 ((among_span v low high).1 (h, k), and_from (is_start L v) (not (cov v)) s (not_from_false (cov v) f)))

  -- an open view has the start of its term open, or each view in between
  open_before : Extends L cov → (low low' : ℕ) → low < low' → length (open_at low') ≤ length (open_at low) + length (starts (low + 1) (low' + 1))
  open_before on low low' h = elim (cases_Bool (cov low')) [
    | inl t ↦ rw t (omega arith)
    | inr f ↦ elim (cases_Bool (cov low)) [
      | inl t ↦ elim (cases_lt low (start L low')) [
        | inl later ↦ let own = own_term L positive low' in
            let s : cov (start L low') ≡ false = elim (cases_Bool (cov (start L low'))) [
              | inl c ↦ absurd (both_ways (cov low') f (on (start L low') low' (omega arith) own.0 c))
              | inr n ↦ n
            ] in
            let one = some_start (start L low') (low + 1) (low' + 1) (omega arith) (omega arith) (starts_itself L positive low') s in
            rw (f, t) (omega arith)
        | inr same ↦ absurd (both_ways (cov low') f (on low low' same (omega arith) t))
      ]
      | inr n ↦ rw (f, n) (omega arith)
    ]
  ]

  -- there are no more gaps from higher up
  no_more_above : Extends L cov → (low low' high : ℕ) → low ≤ low' → length (gaps L cov low' high) ≤ length (gaps L cov low high)
  no_more_above on low low' high h = elim (cases_lt low' high) [
    | inl within ↦ elim (cases_eq low low') [
      | inl e ↦ rw e (omega arith)
      | inr n ↦ let a = ap length (gaps_first low' high within) ∙ length-append (open_at low') (starts (low' + 1) high) in
          let b = ap length (gaps_first low high (omega arith)) ∙ length-append (open_at low) (starts (low + 1) high) in
          let c = ap length (starts_parts (low + 1) (low' + 1) high (omega arith) (omega arith)) ∙ length-append (starts (low + 1) (low' + 1)) (starts (low' + 1) high) in
          let d = open_before on low low' (omega arith) in
          omega arith
    ]
    | inr past ↦ rw (gaps_none low' high past) (omega arith)
  ]

module _ (L : ℕ) (positive : 0 < L) where
  pub gaps_exactly : GapsExactly L
  unfolding gaps
  gaps_exactly cov low high v =
      let p : ℕ → Bool = λ v. anchor L low v && not (cov v) in
      let kept = among_kept p v (span low high) in
      let within = among_span v low high in (
        λ t. let k = kept.0 t in
            let w = within.0 k.0 in
            let a = and_parts (anchor L low v) (not (cov v)) k.1 in (
              record {
                above = w.0;
                below = w.1;
                first = elim (or_cases (eqb v low) (is_start L v) a.0) [ inl e ↦ inl (eqb-true v low e) | inr s ↦ inr s ];
              },
              not-true (cov v) a.1,
            ),
        λ h. let first : anchor L low v ≡ true = elim h.0.first [ inl e ↦ or_left _ _ (eq-eqb v low e) | inr s ↦ or_right _ _ s ] in
            kept.1 (within.1 (h.0.above, h.0.below), and_from (anchor L low v) (not (cov v)) first (not_from_false (cov v) h.1)),
      )

  -- no view loses its cover
  covered_more : (cov after : ℕ → Bool) (low high : ℕ) → ((v : ℕ) → low ≤ v → v < high → cov v ≡ true → after v ≡ true) → length (gaps L after low high) ≤ length (gaps L cov low high)
  unfolding gaps
  covered_more cov after low high kept =
      let p : ℕ → Bool = λ v. anchor L low v && not (after v) in
      let q : ℕ → Bool = λ v. anchor L low v && not (cov v) in
      kept_fewer p q (span low high) (all_span (λ v. p v ≡ true → q v ≡ true) low high (λ v l m t. let a = and_parts (anchor L low v) (not (after v)) t in
      elim (cases_Bool (cov v)) [
        | inl c ↦ absurd (both_ways (after v) (not-true (after v) a.1) (kept v l m c))
        | inr f ↦ and_from (anchor L low v) (not (cov v)) a.0 (not_from_false (cov v) f)
      ]))

  pub no_growth : NoGrowth L
  no_growth cov after low low' high on h kept =
      let a = covered_more cov after low' high kept in
      let b = no_more_above L positive cov on low low' high h in
      omega arith

  pub same_gaps : SameGaps L
  unfolding gaps
  same_gaps cov after low high same =
      let p : ℕ → Bool = λ v. anchor L low v && not (after v) in
      let q : ℕ → Bool = λ v. anchor L low v && not (cov v) in
      kept_same p q (span low high) (all_span (λ v. p v ≡ q v) low high (λ v l m. ap (λ b. anchor L low v && not b) (same v l m)))

  pub no_gaps : NoGaps L
  no_gaps cov low high h = ap length (gaps_none L positive cov low high h)
