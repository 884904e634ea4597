-- What a change of floor, highest view, cursor and covers makes of the gaps.
use Rattle.std.proofs.Common.{◌≡◌, ℕ, ◌+◌, ◌<◌, ◌≤◌, min, true, false, List, [], map, length, sym, ap, ◌∙◌, subst, inl, inr, arith}
use Rattle.std.proofs.lemmas.List.{length-map}
use Rattle.std.proofs.lemmas.Bool.{both_ways, cases_Bool, cond-true, cond-false, cond_both}
use Rattle.effects.specs.declared.effect.Effect.{Effect}
use Rattle.planning.specs.Gaps.{among, missing, plan_start, gaps, pulled}
use Rattle.planning.specs.Laws.{Moved}
use Rattle.planning.proofs.Gaps.{gaps_exactly, no_growth}
use Rattle.planning.proofs.Cursors.{cursor_lands, no_anchor_skipped, only_anchors}
use Rattle.terms.specs.Terms.{is_start}
use Rattle.views.specs.declared.Viewable as viewable
use Rattle.store.specs.Values.{Values, is_covered, gaps_of, unplanned}
use Rattle.store.specs.Steps.{planned, planned_effects}
use Rattle.lawful.specs.Lawful.{Planned}
use Rattle.state.specs.Laws.{fetched, NoGapUnasked, GapsDoNotGrow, TailAsked}
use Rattle.state.proofs.Covers.{extends}

-- a change before planning
pub record Step {R : Type 0} {g : viewable.Ghosts R} (L : ℕ) (s t : Values R g) : Type 0 where
  pub replay : t.replaying ≡ s.replaying
  pub floor : s.floor ≤ t.floor
  pub moved : Moved L s.floor s.current s.cursor t.floor t.current t.cursor
  pub covers : (v : ℕ) → t.floor < v → is_covered L s v ≡ true → is_covered L t v ≡ true
  pub first : s.replaying ≡ true → s.cursor ≡ 0 → t.cursor ≡ 0

module _ {R : Type 0} {g : viewable.Ghosts R} (L : ℕ) (positive : 0 < L) (t : Values R g) where
  -- planning comes to no more than there are
  pub few_planned : length (unplanned L t) ≤ length (gaps_of L t)
  few_planned = no_growth L positive (is_covered L t) (is_covered L t) (t.floor + 1) (plan_start t.cursor t.floor) t.current (extends g.viewed L positive t.nullifications) (omega arith) (λ v above below c. c)

  -- so the effects of planning have room
  pub planned_few : (cause : ℕ) → (t.replaying ≡ false → length (gaps_of L t) ≤ 128) → length (planned_effects L cause t) ≤ 128
  unfolding planned_effects
  planned_few cause few = cond_both t.replaying [] (map (missing cause) (unplanned L t)) (λ es. length es ≤ 128) (λ _. omega arith) (λ over. omega (arith, length-map (unplanned L t) (missing cause), few_planned, few over))

module _ {R : Type 0} {g : viewable.Ghosts R} (L : ℕ) (positive : 0 < L) (s t : Values R g) (step : Step L s t) where
  -- as many as before at most, where the highest view stays
  pub no_more_gaps : t.current ≡ s.current → length (gaps_of L t) ≤ length (gaps_of L s)
  no_more_gaps same = subst (λ n. length (gaps L (is_covered L t) (t.floor + 1) n) ≤ length (gaps_of L s)) (sym same) (no_growth L positive (is_covered L s) (is_covered L t) (s.floor + 1) (t.floor + 1) s.current (extends g.viewed L positive s.nullifications) (omega (arith, step.floor)) (λ v above below. step.covers v (omega arith)))

  module _ (before : Planned L s) where
    pub planned_after : (t.replaying ≡ false → length (gaps_of L t) ≤ 128) → Planned L (planned L t)
    unfolding planned
    planned_after few = record {
      cursor_first = λ on. cond-true t.replaying t.cursor _ on ∙ step.first (sym step.replay ∙ on) (before.cursor_first (sym step.replay ∙ on));
      cursor_lands = λ over. cond-false t.replaying t.cursor _ over ∙ cursor_lands L positive s.floor s.current s.cursor t.floor t.current t.cursor (before.cursor_lands (sym step.replay ∙ over)) step.moved;
      gaps_few = few;
    }

    module _ (es : List Effect) (asks : t.replaying ≡ false → (v : ℕ) → fetched v es ≡ among v (unplanned L t)) where
      pub no_gap_unasked : NoGapUnasked L s (planned L t) es
      unfolding planned
      no_gap_unasked over v = (
        λ gap. let g = (gaps_exactly L positive (is_covered L t) (t.floor + 1) t.current v).0 gap in
            elim (no_anchor_skipped L positive s.floor s.current s.cursor t.floor t.current t.cursor (before.cursor_lands over) step.moved v g.0) [
              | inl now ↦ inl (asks (step.replay ∙ over) v ∙ (gaps_exactly L positive (is_covered L t) (plan_start t.cursor t.floor) t.current v).1 (now, g.1))
              | inr old ↦ inr (record {
                gap = (gaps_exactly L positive (is_covered L s) (s.floor + 1) s.current v).1 (old, elim (cases_Bool (is_covered L s v)) [ inl c ↦ absurd (both_ways (is_covered L t v) g.1 (step.covers v (omega (arith, g.0.above)) c)) | inr n ↦ n ]);
                above = omega (arith, g.0.above);
                bare = g.1;
              })
            ],
        λ asked. elim asked [
          | inl now ↦ let g = (gaps_exactly L positive (is_covered L t) (plan_start t.cursor t.floor) t.current v).0 (sym (asks (step.replay ∙ over) v) ∙ now) in
              (gaps_exactly L positive (is_covered L t) (t.floor + 1) t.current v).1 (only_anchors L positive s.floor s.current s.cursor t.floor t.current t.cursor (before.cursor_lands over) step.moved v g.0, g.1)
          | inr still ↦ let g = (gaps_exactly L positive (is_covered L s) (s.floor + 1) s.current v).0 still.gap in
              (gaps_exactly L positive (is_covered L t) (t.floor + 1) t.current v).1 (
                record {
                  above = omega (arith, still.above);
                  below = omega (arith, g.0.below, step.moved.grown);
                  first = elim g.0.first [ inl e ↦ inl (omega (arith, e, still.above, step.floor)) | inr b ↦ inr b ];
                },
                still.bare,
              )
        ],
      )

      pub tail_asked : TailAsked L s (planned L t) es
      unfolding planned pulled
      tail_asked over rose mid gap =
          let pulls : t.cursor ≤ t.floor + 1 = elim step.moved.raised [
            | inl same ↦ absurd (omega (arith, same.0, rose))
            | inr up ↦ omega (arith, up.1 ∙ cond-false (is_start L (t.floor + 1)) s.cursor (min s.cursor (t.floor + 1)) mid)
          ] in
          let here : plan_start t.cursor t.floor ≡ t.floor + 1 = omega arith in
          asks (step.replay ∙ over) (t.floor + 1) ∙ ap (λ n. among (t.floor + 1) (gaps L (is_covered L t) n t.current)) here ∙ gap

      pub gaps_do_not_grow : GapsDoNotGrow L s (planned L t)
      unfolding planned
      gaps_do_not_grow same = no_more_gaps same
