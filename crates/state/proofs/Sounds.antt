-- Each step keeps a state sound.
use Rattle.std.proofs.Common.{◌≡◌, ℕ, ◌^◌, ◌<◌, ◌≤◌, true, false, cond, ltb, length, Some, arith, rules}
use Rattle.record.specs.declared.kind.Kind.{Kind}
use Rattle.record.specs.declared.kind.Kind.TheVariants.{Notarization, Nullification, Finalization}
use Rattle.std.proofs.lemmas.Grind.{common_steps}
use Rattle.table.proofs.Laws.{one_more, counted, one_less, only_kept, no_more_kept, no_more_without}
use Rattle.table.specs.Rows.{Ascending}
use Rattle.terms.specs.Terms.{end}
use Rattle.views.specs.declared.Viewable as viewable
use Rattle.store.specs.Values.{Values, mark, mark_view, view_of, finalized, is_nullified, is_pending, is_certified, has_failed}
use Rattle.store.specs.Room.{Room, VerdictRoom}
use Rattle.store.specs.Steps.{nullified, notarized, finalized_at, pruned, raised, finalization_taken, seen, before_planning, planned, judged, certified_at, passing, passed, failed_at, failing, ended}
use Rattle.lawful.specs.Lawful.{Sound}

-- the views of each list rise
pub record Rises {R : Type 0} {g : viewable.Ghosts R} (s : Values R g) : Type 0 where
  pub nullifications : Ascending g.viewed s.nullifications
  pub pending : Ascending mark_view s.pending
  pub certified : Ascending g.viewed s.certified
  pub failed : Ascending mark_view s.failed

module _ {R : Type 0} {g : viewable.Ghosts R} (L : ℕ) (s : Values R g) (ok : Sound L s) where
  pub sound_seen : (v : ℕ) → v ≤ 2 ^ 62 → Sound L (seen L v s)
  sound_seen v low = search rules

  pub sound_nullified : (h : R) → Rises s → Room L Nullification (g.viewed h) s → Sound L (nullified L h s)
  unfolding nullified
  sound_nullified h up room =
      let few : length (nullified L h s).nullifications ≤ 128 = let e = counted g.viewed h s.nullifications up.nullifications in grind (arith, common_steps) in
      let open' : (u : ℕ) → is_nullified u (nullified L h s) ≡ true → finalized s < end L u = λ u t. let e = one_more g.viewed h s.nullifications u in let o = ok.nullifications_open u in grind (arith, common_steps) in
      search rules

  pub sound_notarized : (v : ℕ) → Rises s → Room L Notarization v s → Sound L (notarized L v s)
  unfolding notarized
  sound_notarized v up room =
      let few : length (notarized L v s).pending ≤ 128 = let e = counted mark_view (mark v) s.pending up.pending in grind (arith, common_steps) in
      let above : (u : ℕ) → is_pending u (notarized L v s) ≡ true → finalized s < u = λ u t. let e = one_more mark_view (mark v) s.pending u in let o = ok.pending_above u in grind (arith, common_steps) in
      search rules

  pub sound_finalized : (h : R) → (g.viewed h) ≤ 2 ^ 62 → Sound L (finalization_taken L h s)
  unfolding finalization_taken finalized_at pruned raised
  sound_finalized h low =
      let o = cond (ltb (finalized s) (g.viewed h)) (Some h) s.finalization in
      let f = view_of g.viewed o in
      let n-fewer = no_more_kept g.viewed (λ w. ltb f (end L w)) s.nullifications in
      let p-fewer = no_more_kept mark_view (λ w. ltb f w) s.pending in
      let d-fewer = no_more_kept g.viewed (λ w. ltb f w) s.certified in
      let e-fewer = no_more_kept mark_view (λ w. ltb f w) s.failed in
      let floor : f ≤ (finalization_taken L h s).floor = let k = ok.floor_finalized in grind (arith, common_steps) in
      let floor' : (finalization_taken L h s).floor ≤ 2 ^ 62 = let k = ok.floor_low in grind (arith, common_steps) in
      let opens : (u : ℕ) → is_nullified u (finalization_taken L h s) ≡ true → f < end L u = λ u t. let e = only_kept g.viewed (λ w. ltb f (end L w)) s.nullifications u in grind (arith, common_steps) in
      let waits : (u : ℕ) → is_pending u (finalization_taken L h s) ≡ true → f < u = λ u t. let e = only_kept mark_view (λ w. ltb f w) s.pending u in grind (arith, common_steps) in
      let passes : (u : ℕ) → is_certified u (finalization_taken L h s) ≡ true → f < u = λ u t. let e = only_kept g.viewed (λ w. ltb f w) s.certified u in grind (arith, common_steps) in
      let fails : (u : ℕ) → has_failed u (finalization_taken L h s) ≡ true → f < u = λ u t. let e = only_kept mark_view (λ w. ltb f w) s.failed u in grind (arith, common_steps) in
      search rules

  pub sound_passed : (h : R) → Rises s → (g.viewed h) ≤ 2 ^ 62 → VerdictRoom L true (g.viewed h) s → Sound L (passed L h s)
  unfolding passing certified_at raised
  sound_passed h up low room =
      let fewer = no_more_without mark_view (g.viewed h) s.pending in
      let few : length (passed L h s).certified ≤ 128 = let e = counted g.viewed h s.certified up.certified in grind (arith, common_steps) in
      let waits : (u : ℕ) → is_pending u (passed L h s) ≡ true → finalized s < u = λ u t. let e = one_less mark_view (g.viewed h) s.pending u in let o = ok.pending_above u in grind (arith, common_steps) in
      let passes : (u : ℕ) → is_certified u (passed L h s) ≡ true → finalized s < u = λ u t. let e = one_more g.viewed h s.certified u in let o = ok.certified_above u in grind (arith, common_steps) in
      search rules

  pub sound_failed : (v : ℕ) → Rises s → VerdictRoom L false v s → Sound L (failing L v (judged L v s))
  unfolding failing failed_at
  sound_failed v up room =
      let fewer = no_more_without mark_view v s.pending in
      let fewer' = no_more_without g.viewed v s.certified in
      let few : length (failing L v (judged L v s)).failed ≤ 128 = let e = counted mark_view (mark v) s.failed up.failed in grind (arith, common_steps) in
      let waits : (u : ℕ) → is_pending u (failing L v (judged L v s)) ≡ true → finalized s < u = λ u t. let e = one_less mark_view v s.pending u in let o = ok.pending_above u in grind (arith, common_steps) in
      let passes : (u : ℕ) → is_certified u (failing L v (judged L v s)) ≡ true → finalized s < u = λ u t. let e = one_less g.viewed v s.certified u in let o = ok.certified_above u in grind (arith, common_steps) in
      let fails : (u : ℕ) → has_failed u (failing L v (judged L v s)) ≡ true → finalized s < u = λ u t. let e = one_more mark_view (mark v) s.failed u in let o = ok.failed_above u in grind (arith, common_steps) in
      search rules

  pub sound_planned : Sound L (planned L s)
  unfolding planned
  sound_planned = search rules

  pub sound_ended : Sound L (ended L s)
  sound_ended = search rules

module _ {R : Type 0} {g : viewable.Ghosts R} (L : ℕ) where
  pub sound_evidence : (k : Kind) (h : R) (s : Values R g) → Sound L s → Rises s → (g.viewed h) ≤ 2 ^ 62 → Room L k (g.viewed h) s → Sound L (before_planning L k h s)
  unfolding before_planning
  sound_evidence Nullification h s ok up low room = sound_nullified L (seen L (g.viewed h) s) (sound_seen L s ok (g.viewed h) low) h (search rules) room
  sound_evidence Notarization h s ok up low room = sound_notarized L (seen L (g.viewed h) s) (sound_seen L s ok (g.viewed h) low) (g.viewed h) (search rules) room
  sound_evidence Finalization h s ok up low room = sound_finalized L (seen L (g.viewed h) s) (sound_seen L s ok (g.viewed h) low) h low
