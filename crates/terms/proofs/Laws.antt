-- The laws of terms, for every length above 0.
use Rattle.std.proofs.Common.{◌≡◌, ℕ, ◌+◌, ◌-◌, ◌*◌, ◌/◌, ◌<◌, ◌≤◌, ◌&&◌, eqb, leb, sym, refl, ap, ◌∙◌, inl, inr, mod-lt, add-mul, one-mul, div-add-mod', zero-mul, arith}
use native.Mathlib.Nat.{div-eq_of_lt-le}
use Rattle.std.proofs.lemmas.Bool.{eq-eqb, ne_eqb, eqb-true, le-leb, leb-true, and_parts, and_from, cases_eq, cases_lt, cond-false}
use Rattle.std.proofs.lemmas.Bool.Decides.{same_from_decides}
use Rattle.terms.specs.Terms.{start, end, next, is_start, same_term, covering}
use Rattle.terms.specs.Laws.{OwnTerm, Rising, WholeTerm, SameStart, ToTheEnd, CoversBetween, LeastNext, StartCovered, StartsItself, EndsPast, CoversOn}

-- view 0 is a term of its own
pub start_0 : (L : ℕ) → start L 0 ≡ 0
unfolding start
start_0 L = refl

pub end_0 : (L : ℕ) → end L 0 ≡ 0
unfolding end
end_0 L = refl

-- the formula at a later view
pub start_later : (L v : ℕ) → 0 < v → start L v ≡ (v - 1) / L * L + 1
unfolding start
start_later L v h = cond-false (eqb v 0) 0 ((v - 1) / L * L + 1) (ne_eqb v 0 (omega arith))

pub end_later : (L v : ℕ) → 0 < v → end L v ≡ start L v + (L - 1)
unfolding end
end_later L v h = cond-false (eqb v 0) 0 (start L v + (L - 1)) (ne_eqb v 0 (omega arith))

module _ (L : ℕ) (positive : 0 < L) where
  -- a later view lies less than L above its term's start
  within : (v : ℕ) → 0 < v → (0 < start L v) × (start L v ≤ v) × (v < start L v + L)
  within v h =
      let s = start_later L v h in
      let d = div-add-mod' (v - 1) L in
      let m = mod-lt (v - 1) positive in
      (omega arith, omega arith, omega arith)

  -- the one start that a later view can have
  start_is : (q v : ℕ) → q * L < v → v ≤ q * L + L → start L v ≡ q * L + 1
  start_is q v low high =
      let m = add-mul q 1 L in
      let o = one-mul L in
      start_later L v (omega arith) ∙ ap (λ n. n * L + 1) (div-eq_of_lt-le L (omega arith) (omega arith))

  pub whole_term : WholeTerm L
  whole_term v h = omega (arith, end_later L v h)

  pub own_term : OwnTerm L
  own_term v = elim (cases_eq v 0) [
    | inl z ↦ rw z (omega (arith, start_0 L), omega (arith, end_0 L))
    | inr n ↦ let w = within v (omega arith) in
        let e = whole_term v (omega arith) in
        (omega arith, omega arith)
  ]

  -- each half by itself, as `grind` applies it
  pub own_start : (v : ℕ) → start L v ≤ v
  own_start v = (own_term v).0

  pub own_end : (v : ℕ) → v ≤ end L v
  own_end v = (own_term v).1

  -- a term's end lies less than L above each of its views
  pub end_below : (v : ℕ) → end L v < v + L
  end_below v = elim (cases_eq v 0) [
    | inl z ↦ omega (arith, ap (end L) z, end_0 L)
    | inr n ↦ omega (arith, whole_term v (omega arith), within v (omega arith))
  ]

  -- a view between another's start and end has that start
  between : (u v : ℕ) → start L u ≤ v → v ≤ end L u → start L u ≡ start L v
  between u v low high = elim (cases_eq u 0) [
    | inl z ↦ let n : v ≡ 0 = omega (arith, ap (end L) z, end_0 L) in ap (start L) (z ∙ sym n)
    | inr n ↦ let s = start_later L u (omega arith) in
        let e = end_later L u (omega arith) in
        s ∙ sym (start_is ((u - 1) / L) v (omega arith) (omega arith))
  ]

  pub same_start : SameStart L
  unfolding same_term
  same_start u v = (
    λ t. let e = eqb-true (start L u) (start L v) t in
        elim (cases_eq v 0) [
          | inl z ↦ (omega (arith, own_term v), omega (arith, own_term u))
          | inr n ↦ let w = within v (omega arith) in
              let o = own_term u in
              elim (cases_eq u 0) [
                | inl z ↦ absurd (omega (arith, ap (start L) z, start_0 L))
                | inr m ↦ (omega arith, omega (arith, whole_term u (omega arith)))
              ]
        ],
    λ p. eq-eqb (start L u) (start L v) (between u v p.0 p.1),
  )

  pub to_the_end : ToTheEnd L
  unfolding covering
  to_the_end u v = (
    λ t. let p = and_parts (leb u v) (same_term L u v) t in (leb-true u v p.0, ((same_start u v).0 p.1).1),
    λ p. and_from (leb u v) (same_term L u v) (le-leb u v p.0) ((same_start u v).1 (omega (arith, own_term u), p.1)),
  )

  pub start_covered : StartCovered L
  unfolding is_start same_term covering
  start_covered u v s t =
      let p = and_parts (leb u v) (same_term L u v) t in
      let a = leb-true u v p.0 in
      let b = eqb-true (start L u) (start L v) p.1 in
      let d = eqb-true v (start L v) s in
      omega (arith, own_term u)

  -- the view after a term's end starts a term
  next_starts : (v : ℕ) → start L (next L v) ≡ next L v
  unfolding next
  next_starts v = elim (cases_eq v 0) [
    | inl z ↦ let e : end L v + 1 ≡ 0 * L + 1 = omega (arith, ap (end L) z, end_0 L, zero-mul L) in
        rw e (start_is 0 (0 * L + 1) (omega arith) (omega arith))
    | inr n ↦ let q = (v - 1) / L in
        let s = start_later L v (omega arith) in
        let w = end_later L v (omega arith) in
        let m = add-mul q 1 L in
        let o = one-mul L in
        let e : end L v + 1 ≡ (q + 1) * L + 1 = omega arith in
        rw e (start_is (q + 1) ((q + 1) * L + 1) (omega arith) (omega arith))
  ]

  pub least_next : LeastNext L
  unfolding next is_start
  least_next v = (
    eq-eqb (next L v) (start L (next L v)) (sym (next_starts v)),
    omega (arith, own_term v),
    λ w h s. elim (cases_lt (end L v) w) [
      | inl past ↦ omega arith
      | inr inside ↦ absurd (omega (arith, own_term v, eqb-true w (start L w) s, between v w (omega (arith, own_term v)) inside))
    ],
  )

  pub rising : Rising L
  rising u v h =
      let s : start L u ≤ start L v = elim (cases_lt u (start L v)) [
        | inl before ↦ omega (arith, own_term u)
        | inr after ↦ omega (arith, between v u after (omega (arith, own_term v)))
      ] in (
        s,
        elim (cases_eq u 0) [
          | inl z ↦ omega (arith, ap (end L) z, end_0 L)
          | inr n ↦ omega (arith, whole_term u (omega arith), whole_term v (omega arith))
        ],
      )

  pub start_rises : (u v : ℕ) → u ≤ v → start L u ≤ start L v
  start_rises u v h = (rising u v h).0

  pub end_rises : (u v : ℕ) → u ≤ v → end L u ≤ end L v
  end_rises u v h = (rising u v h).1

  pub covers_between : CoversBetween L
  covers_between u w v low high t = (to_the_end w v).1 (high, omega (arith, ((to_the_end u v).0 t).1, (rising u w low).1))

  pub starts_itself : StartsItself L
  unfolding is_start
  starts_itself v = eq-eqb (start L v) (start L (start L v)) (between v (start L v) (omega arith) (omega (arith, own_term v)))

  pub ends_past : EndsPast L
  ends_past u v = (
    λ t. elim (cases_lt u v) [
      | inl below ↦ let s = between v u (leb-true (start L v) u t) (omega (arith, own_term v)) in
          elim (cases_eq u 0) [
            | inl z ↦ absurd (omega (arith, ap (start L) z, start_0 L, within v (omega arith)))
            | inr n ↦ omega (arith, own_term v, whole_term u (omega arith), whole_term v (omega arith))
          ]
      | inr above ↦ omega (arith, own_term u)
    ],
    λ h. le-leb (start L v) u (elim (cases_lt u v) [
      | inl below ↦ omega (arith, between u v (omega (arith, own_term u)) h, own_term u)
      | inr above ↦ omega (arith, own_term v)
    ]),
  )

  pub covers_on : CoversOn L
  covers_on u v w low high t =
      let p = (to_the_end u v).0 t in
      let same = between w v low (omega (arith, own_term w)) in
      let back = leb-true (start L v) u ((ends_past u v).1 p.1) in
      (to_the_end u w).1 (omega arith, (ends_past u w).0 (le-leb (start L w) u (omega arith)))

  -- it is told by one of the two starts
  pub covers_from_start : (u v : ℕ) → covering L u v ≡ (leb u v && leb (start L v) u)
  covers_from_start u v = same_from_decides (covering L u v) (leb u v && leb (start L v) u) (to_the_end u v) (
    λ t. let p = and_parts (leb u v) (leb (start L v) u) t in (leb-true u v p.0, (ends_past u v).0 p.1),
    λ p. and_from (leb u v) (leb (start L v) u) (le-leb u v p.0) ((ends_past u v).1 p.1),
  )

-- what `term_start` promises of every view
pub ruleset starts = (own_start, own_end, start_rises, end_rises, ends_past)
