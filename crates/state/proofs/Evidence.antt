-- What evidence, a verdict and the marker leave: a lawful state, and the promises kept.
use Rattle.std.proofs.Common.{◌≡◌, ℕ, ◌+◌, ◌^◌, ◌<◌, ◌≤◌, max, Bool, true, false, not, ◌||◌, ◌∷◌, map, length, Ok, sym, refl, ap, ◌∙◌, subst, inl, inr, arith}
use Rattle.std.proofs.lemmas.List.Filters.{length-filter_both}
use Rattle.std.proofs.lemmas.List.{length-append, length-map}
use Rattle.std.proofs.lemmas.Bool.{true≢false, both_ways, cases_Bool}
use Rattle.std.proofs.lemmas.Grind.{common_steps}
use Rattle.planning.specs.Gaps.{among, plan_start, gaps, landing}
use Rattle.planning.proofs.Cursors.{cursor_lands}
use Rattle.planning.proofs.Gaps.{gaps_exactly}
use Rattle.record.specs.declared.kind.Kind.{Kind}
use Rattle.record.specs.declared.kind.Kind.TheVariants.{Notarization, Nullification, Finalization}
use Rattle.views.specs.declared.Viewable as viewable
use Rattle.store.specs.Values.{Values, mark_view, is_covered, gaps_of, unplanned}
use Rattle.store.specs.Room.{Room, VerdictRoom}
use Rattle.store.specs.Steps.{settles, failed_fetch, taken_effects, seen, nullified, notarized, finalized_at, pruned, raised, finalization_taken, before_planning, planned, planned_effects, updated, updated_effects, raised_effects, judged, certified_at, passing, passed, failed_at, failing, failing_effects, certified, certified_effects, ended, replayed, replayed_effects, is_bare, failed_bare}
use Rattle.state.specs.Answers.{gaps_over, evidence_answer, verdict_answer, marker_answer}
use Rattle.lawful.specs.Lawful.{Sound, Lawful}
use Rattle.state.specs.Laws.{fetched, Promises, NoNullificationSettled, NotarizationSettlesNoNullification, EveryGapAsked}
use Rattle.state.proofs.Fetches.{fetched_append, fetched_after, taken_none, raised_none, failing_none, planned_fetches, none_failed}
use Rattle.state.proofs.Moves.{Step, no_more_gaps, planned_after, no_gap_unasked, tail_asked, gaps_do_not_grow, planned_few}
use Rattle.state.proofs.Settles.{grows_evidence, grows_passed, grows_failed, grows_ended, dropped_evidence, dropped_passed, dropped_failed, dropped_ended, no_nullification_settled}
use Rattle.state.proofs.Sounds.{Rises, sound_evidence, sound_passed, sound_failed, sound_planned, sound_ended}
use Rattle.state.proofs.Steps.{step_evidence, step_passed, step_ended}

or_none : (b : Bool) → (b || false) ≡ b
or_none true = refl
or_none false = refl

module _ {R : Type 0} {g : viewable.Ghosts R} (L : ℕ) where
  pub record Tested (k : Kind) (h : R) (s : Values R g) : Type 0 where
    pub low : (g.viewed h) ≤ 2 ^ 62
    pub room : Room L k (g.viewed h) s
    pub gaps : gaps_over L k h s ≡ false

  pub evidence_tested : (k : Kind) (h : R) (s : Values R g) → evidence_answer L k h s ≡ Ok tt → Tested k h s
  unfolding evidence_answer
  evidence_tested k h s e = grind (arith, common_steps)

  pub verdict_tested : (b : Bool) (v : ℕ) (s : Values R g) → verdict_answer L b Notarization v s ≡ Ok tt → (v ≤ 2 ^ 62) × VerdictRoom L b v s
  unfolding verdict_answer
  verdict_tested b v s e = grind (arith, common_steps)

  pub marker_tested : (s : Values R g) → marker_answer L s ≡ Ok tt → length (gaps_of L s) ≤ 128
  unfolding marker_answer
  marker_tested s e = grind (arith, common_steps)

  seen_highest : (k : Kind) (h : R) (s : Values R g) → (before_planning L k h s).current ≡ max s.current (g.viewed h)
  unfolding before_planning nullified notarized finalization_taken finalized_at pruned raised
  seen_highest Nullification h s = refl
  seen_highest Notarization h s = refl
  seen_highest Finalization h s = refl

module _ {R : Type 0} {g : viewable.Ghosts R} (L : ℕ) (positive : 0 < L) (s : Values R g) (ok : Lawful L s) (up : Rises s) where
  module _ (k : Kind) (h : R) (fine : Tested L k h s) where
    t_sound : Sound L (before_planning L k h s)
    t_sound = sound_evidence L k h s ok.sound up fine.low fine.room

    t_step : Step L s (before_planning L k h s)
    t_step = step_evidence L positive k h s t_sound.floor_finalized

    pub evidence_few : (before_planning L k h s).replaying ≡ false → length (gaps_of L (before_planning L k h s)) ≤ 128
    evidence_few over =
        let was : s.replaying ≡ false = sym t_step.replay ∙ over in
        let more = no_more_gaps L positive s (before_planning L k h s) t_step in
        let top = seen_highest L k h s in
        let few = ok.planned.gaps_few was in
        let tested = fine.gaps in
        grind (arith, common_steps)

    pub evidence_lawful : Lawful L (updated L k h s)
    evidence_lawful = record {
      sound = sound_planned L (before_planning L k h s) t_sound;
      planned = planned_after L positive s (before_planning L k h s) t_step ok.planned evidence_few;
    }

    pub evidence_room : length (planned_effects L (g.viewed h) (before_planning L k h s)) ≤ 128
    evidence_room = planned_few L positive (before_planning L k h s) (g.viewed h) evidence_few

    pub evidence_promises : Promises L s (updated L k h s) (updated_effects L k h s)
    evidence_promises =
        let asks : (before_planning L k h s).replaying ≡ false → (v : ℕ) → fetched v (updated_effects L k h s) ≡ among v (unplanned L (before_planning L k h s)) = λ over v. fetched_after v (taken_effects L k h (seen L (g.viewed h) s)) _ (taken_none v L k h (seen L (g.viewed h) s)) ∙ planned_fetches v L (g.viewed h) (before_planning L k h s) over in
        record {
          no_gap_unasked = no_gap_unasked L positive s (before_planning L k h s) t_step ok.planned (updated_effects L k h s) asks;
          gaps_do_not_grow = gaps_do_not_grow L positive s (before_planning L k h s) t_step ok.planned (updated_effects L k h s) asks;
          tail_asked = tail_asked L positive s (before_planning L k h s) t_step ok.planned (updated_effects L k h s) asks;
          dropped_only_when_finalized = dropped_evidence L positive s ok.sound k h;
          settled_only_grows = grows_evidence L positive s ok.sound k h;
        }

    pub evidence_settles : NotarizationSettlesNoNullification L s (updated L k h s) k
    evidence_settles e = subst (λ j. NoNullificationSettled L s (updated L j h s)) (sym e) (no_nullification_settled L positive s ok.sound h)

  module _ (h : R) where
    pub passed_few : (passed L h s).replaying ≡ false → length (gaps_of L (passed L h s)) ≤ 128
    unfolding raised passing certified_at
    passed_few over = omega (arith, ok.planned.gaps_few over, no_more_gaps L positive s (passed L h s) (step_passed L positive h s) refl)

    pub passed_room : length (planned_effects L (g.viewed h) (passed L h s)) ≤ 128
    passed_room = planned_few L positive (passed L h s) (g.viewed h) passed_few

  module _ (h : R) (low : (g.viewed h) ≤ 2 ^ 62) (room : VerdictRoom L true (g.viewed h) s) where
    p_sound : Sound L (passed L h s)
    p_sound = sound_passed L s ok.sound h up low room

    pub passed_lawful : Lawful L (planned L (passed L h s))
    passed_lawful = record {
      sound = sound_planned L (passed L h s) p_sound;
      planned = planned_after L positive s (passed L h s) (step_passed L positive h s) ok.planned (passed_few h);
    }

    pub passed_promises : Promises L s (planned L (passed L h s)) (certified_effects L true h s)
    passed_promises =
        let es = certified_effects L true h s in
        let asks : (passed L h s).replaying ≡ false → (v : ℕ) → fetched v es ≡ among v (unplanned L (passed L h s)) = λ over v. fetched_after v (raised_effects L (g.viewed h) s) _ (raised_none v L (g.viewed h) s) ∙ planned_fetches v L (g.viewed h) (passed L h s) over in
        record {
          no_gap_unasked = no_gap_unasked L positive s (passed L h s) (step_passed L positive h s) ok.planned es asks;
          gaps_do_not_grow = gaps_do_not_grow L positive s (passed L h s) (step_passed L positive h s) ok.planned es asks;
          tail_asked = tail_asked L positive s (passed L h s) (step_passed L positive h s) ok.planned es asks;
          dropped_only_when_finalized = dropped_passed L positive s ok.sound h;
          settled_only_grows = grows_passed L positive s ok.sound h;
        }

  module _ (v : ℕ) (room : VerdictRoom L false v s) where
    pub failed_lawful : Lawful L (failing L v (judged L v s))
    unfolding failing failed_at
    failed_lawful = record {
      sound = sound_failed L s ok.sound v up room;
      planned = record { cursor_first = ok.planned.cursor_first; cursor_lands = ok.planned.cursor_lands; gaps_few = ok.planned.gaps_few };
    }

    -- no gap comes and none goes
    pub failed_promises : Promises L s (failing L v (judged L v s)) (settles v ∷ failing_effects L v s)
    unfolding failing failed_at
    failed_promises = record {
      no_gap_unasked = λ over w. (
        λ gap. let g = (gaps_exactly L positive (is_covered L s) (s.floor + 1) s.current w).0 gap in inr (record { gap = gap; above = omega (arith, g.0.above); bare = g.1 }),
        λ asked. elim asked [ inl now ↦ absurd (both_ways (fetched w (failing_effects L v s)) (failing_none w L v s) now) | inr still ↦ still.gap ],
      );
      gaps_do_not_grow = λ same. omega arith;
      tail_asked = λ over rose mid gap. absurd (omega (arith, rose));
      dropped_only_when_finalized = dropped_failed L positive s ok.sound v;
      settled_only_grows = grows_failed L positive s ok.sound v;
    }

  pub verdict_lawful : (b : Bool) (h : R) → (g.viewed h) ≤ 2 ^ 62 → VerdictRoom L b (g.viewed h) s → Lawful L (certified L b h s)
  verdict_lawful true h low room = passed_lawful h low room
  verdict_lawful false h low room = failed_lawful (g.viewed h) room

  pub verdict_promises : (b : Bool) (h : R) → (g.viewed h) ≤ 2 ^ 62 → VerdictRoom L b (g.viewed h) s → Promises L s (certified L b h s) (certified_effects L b h s)
  verdict_promises true h low room = passed_promises h low room
  verdict_promises false h low room = failed_promises (g.viewed h) room

  module _ (few : length (gaps_of L s) ≤ 128) where
    -- the cursor of a state in replay, and of one that is not, leads to the same place
    from_floor : landing L (plan_start s.cursor s.floor) s.current ≡ landing L (s.floor + 1) s.current
    from_floor = elim (cases_Bool s.replaying) [
      | inl on ↦ ap (λ n. landing L n s.current) (omega (arith, ok.planned.cursor_first on))
      | inr over ↦ cursor_lands L positive s.floor s.current s.cursor s.floor s.current s.cursor (ok.planned.cursor_lands over) (step_ended L positive s over).moved
    ]

    pub marker_lawful : Lawful L (replayed L s)
    unfolding planned
    marker_lawful = record {
      sound = sound_planned L (ended L s) (sound_ended L s ok.sound);
      planned = record { cursor_first = λ on. absurd (true≢false (sym on)); cursor_lands = λ _. from_floor; gaps_few = λ _. few };
    }

    -- 128 gaps and 128 failed views at most
    pub marker_room : length (replayed_effects L s) ≤ 256
    unfolding failed_bare
    marker_room =
        let ps = planned_effects L s.current (ended L s) in
        let vs = map mark_view s.failed in
        let bs = failed_bare L s in
        omega (arith, length-append ps (map failed_fetch bs), planned_few L positive (ended L s) s.current (λ _. few), length-map bs failed_fetch, length-filter_both (is_bare L s) (λ v. not (is_bare L s v)) (λ _. refl) vs, length-map s.failed mark_view, ok.sound.failed_few)

    marker_asks : (v : ℕ) → fetched v (replayed_effects L s) ≡ among v (unplanned L (ended L s))
    marker_asks v =
        let ps = planned_effects L s.current (ended L s) in
        let one = fetched_append v ps (map failed_fetch (failed_bare L s)) ∙ ap (λ b. fetched v ps || b) (none_failed v (failed_bare L s)) in
        one ∙ or_none (fetched v ps) ∙ planned_fetches v L s.current (ended L s) refl

    pub marker_every : EveryGapAsked L s (replayed L s) (replayed_effects L s)
    unfolding planned
    marker_every on v = marker_asks v ∙ ap (λ n. among v (gaps L (is_covered L s) n s.current)) (omega (arith, ok.planned.cursor_first on))

    pub marker_promises : Promises L s (replayed L s) (replayed_effects L s)
    unfolding planned
    marker_promises = record {
      no_gap_unasked = λ over. no_gap_unasked L positive s (ended L s) (step_ended L positive s over) ok.planned (replayed_effects L s) (λ _. marker_asks) over;
      gaps_do_not_grow = λ same. omega arith;
      tail_asked = λ over rose mid gap. absurd (omega (arith, rose));
      dropped_only_when_finalized = dropped_ended L positive s ok.sound;
      settled_only_grows = grows_ended L positive s ok.sound;
    }
