-- Where planning lands, and that a cursor loses no anchor.
use Rattle.std.proofs.Common.{◌≡◌, ℕ, ◌+◌, ◌<◌, ◌≤◌, min, true, ltb, ◌⊎◌, sym, ap, ◌∙◌, subst, inl, inr, arith}
use Rattle.std.proofs.lemmas.Bool.{both_ways, cases_lt, cases_Bool, lt-ltb, le-ltb, cond-true, cond-false}
use Rattle.terms.specs.Terms.{is_start}
use Rattle.terms.proofs.Laws.{least_next}
use Rattle.planning.specs.Gaps.{plan_start, first_start, landing, pulled}
use Rattle.planning.specs.Laws.{Anchor, Moved, CursorLands, NoAnchorSkipped, OnlyAnchors}

module _ (L : ℕ) (positive : 0 < L) where
  -- it is a term start at or past the view, and the least one
  first_start_is : (v : ℕ) → (v ≤ first_start L v) × (is_start L (first_start L v) ≡ true) × ((w : ℕ) → v ≤ w → is_start L w ≡ true → first_start L v ≤ w)
  unfolding first_start
  first_start_is v =
      let least = least_next L positive v in
      elim (cases_Bool (is_start L v)) [
        | inl t ↦ rw t (omega arith, t, λ w h s. h)
        | inr f ↦ rw f (
          omega (arith, least.1),
          least.0,
          λ w h s. elim (cases_lt v w) [
            | inl later ↦ least.2 w later s
            | inr here ↦ let e : w ≡ v = omega arith in absurd (both_ways (is_start L v) f (ap (is_start L) (sym e) ∙ s))
          ],
        )
      ]

  pub lands_past : (low high : ℕ) → low < high → landing L low high ≡ first_start L high
  unfolding landing
  lands_past low high h = cond-true (ltb low high) (first_start L high) low (lt-ltb low high h)

  pub lands_here : (low high : ℕ) → high ≤ low → landing L low high ≡ low
  unfolding landing
  lands_here low high h = cond-false (ltb low high) (first_start L high) low (le-ltb low high h)

  module _ (floor current cursor floor' current' cursor' : ℕ) where
    -- planning begins past the view after the floor
    record Ahead : Type 0 where
      from : plan_start cursor' floor' ≡ first_start L current
      past : floor' + 1 < first_start L current
      low : floor + 1 < current
      risen : floor ≤ floor'
      first : (floor' ≡ floor) ⊎ (is_start L (floor' + 1) ≡ true)

    -- or else at that view
    where_from : cursor ≡ landing L (floor + 1) current → Moved L floor current cursor floor' current' cursor' → (plan_start cursor' floor' ≡ floor' + 1) ⊎ Ahead
    unfolding pulled
    where_from at moved = elim (cases_lt (floor' + 1) cursor') [
      | inl ahead ↦ inr (elim moved.raised [
        | inl stayed ↦ let low : floor + 1 < current = elim (cases_lt (floor + 1) current) [
          | inl h ↦ h
          | inr h ↦ absurd (omega (arith, stayed.0, stayed.1, lands_here (floor + 1) current h))
        ] in
            let e = lands_past (floor + 1) current low in
            let same = stayed.0 in
            let c = stayed.1 in
            record { from = omega arith; past = omega arith; low = low; risen = omega arith; first = inl same }
        | inr rose ↦ let higher = rose.0 in
            elim (cases_Bool (is_start L (floor' + 1))) [
              | inl t ↦ let c : cursor' ≡ cursor = rose.1 ∙ cond-true (is_start L (floor' + 1)) cursor (min cursor (floor' + 1)) t in
                  let low : floor + 1 < current = elim (cases_lt (floor + 1) current) [
                    | inl h ↦ h
                    | inr h ↦ absurd (omega (arith, lands_here (floor + 1) current h))
                  ] in
                  let e = lands_past (floor + 1) current low in
                  record { from = omega arith; past = omega arith; low = low; risen = omega arith; first = inr t }
              | inr f ↦ let c : cursor' ≡ min cursor (floor' + 1) = rose.1 ∙ cond-false (is_start L (floor' + 1)) cursor (min cursor (floor' + 1)) f in
                  absurd (omega arith)
            ]
      ])
      | inr behind ↦ inl (omega arith)
    ]

    -- an anchor from the view after the floor on that planning passes over lay below the highest view before
    passed : Ahead → (v : ℕ) → Anchor L (floor' + 1) current' v → v < first_start L current → Anchor L (floor + 1) current v
    passed ahead v a h =
        let f = first_start_is current in
        let above = a.above in
        let risen = ahead.risen in
        let before : is_start L v ≡ true → v < current = λ s. elim (cases_lt v current) [ inl l ↦ l | inr l ↦ absurd (omega (arith, f.2 v l s)) ] in
        let start : is_start L v ≡ true → Anchor L (floor + 1) current v = λ s. record { above = omega arith; below = before s; first = inr s } in
        elim a.first [
          | inl e ↦ elim ahead.first [
            | inl same ↦ record { above = omega arith; below = omega (arith, ahead.low); first = inl (omega arith) }
            | inr t ↦ start (ap (is_start L) e ∙ t)
          ]
          | inr s ↦ start s
        ]

    pub cursor_lands : CursorLands L floor current cursor floor' current' cursor'
    cursor_lands at moved = elim (where_from at moved) [
      | inl e ↦ ap (λ n. landing L n current') e
      | inr ahead ↦ let f = first_start_is current in
          let f' = first_start_is current' in
          let past = ahead.past in
          let grown = moved.grown in
          ap (λ n. landing L n current') ahead.from ∙ elim (cases_lt (first_start L current) current') [
            | inl within ↦ lands_past (first_start L current) current' within ∙ sym (lands_past (floor' + 1) current' (omega arith))
            | inr beyond ↦ let low : floor' + 1 < current' = elim ahead.first [
              | inl same ↦ omega (arith, ahead.low)
              | inr t ↦ elim (cases_lt (floor' + 1) current') [ inl h ↦ h | inr h ↦ absurd (omega (arith, f.2 (floor' + 1) (omega arith) t)) ]
            ] in
                let on = f'.2 (first_start L current) beyond f.1 in
                let back = f.2 (first_start L current') (omega (arith, f'.0)) f'.1 in
                let e : first_start L current ≡ first_start L current' = omega arith in
                lands_here (first_start L current) current' beyond ∙ e ∙ sym (lands_past (floor' + 1) current' low)
          ]
    ]

    pub no_anchor_skipped : NoAnchorSkipped L floor current cursor floor' current' cursor'
    no_anchor_skipped at moved v a = elim (where_from at moved) [
      | inl e ↦ inl (subst (λ n. Anchor L n current' v) (sym e) a)
      | inr ahead ↦ elim (cases_lt v (first_start L current)) [
        | inl h ↦ inr (passed ahead v a h)
        | inr h ↦ let from = ahead.from in
            inl (record {
              above = omega arith;
              below = a.below;
              first = elim a.first [ inl e ↦ absurd (omega (arith, ahead.past)) | inr s ↦ inr s ];
            })
      ]
    ]

    pub only_anchors : OnlyAnchors L floor current cursor floor' current' cursor'
    only_anchors at moved v a = elim (where_from at moved) [
      | inl e ↦ subst (λ n. Anchor L n current' v) e a
      | inr ahead ↦ let f = first_start_is current in
          let past = ahead.past in
          let from = ahead.from in
          let above = a.above in
          record {
            above = omega arith;
            below = a.below;
            first = elim a.first [ inl e ↦ inr (ap (is_start L) (e ∙ from) ∙ f.1) | inr s ↦ inr s ];
          }
    ]
