-- What a state holds, by the calls that were accepted: at the making, and after one more.
use Rattle.std.proofs.Common.{◌≡◌, ℕ, Bool, true, false, cond, not, ◌&&◌, ◌||◌, ltb, List, [], ◌∷◌, is_some, Some, None, Option, refl, ap, arith}
use Rattle.std.proofs.lemmas.Grind.{common_steps}
use Rattle.record.specs.declared.kind.Kind.{Kind}
use Rattle.record.specs.declared.kind.Kind.TheVariants.{Notarization, Nullification, Finalization}
use Rattle.state.specs.Answers.{is_notarization}
use Rattle.store.specs.Fresh.{fresh}
use Rattle.store.specs.Steps.{nullified as with_nullification, notarized as with_notarization, finalized_at, pruned, raised, finalization_taken, before_planning, planned, updated, certified_at, passing, failed_at, failing, certified, replayed}
use Rattle.store.specs.Values.{Values, mark, mark_view, view_of, finalized as finalized_in, is_pending, has_failed}
use Rattle.table.proofs.Laws.{one_more, one_less, only_kept, nothing_found}
use Rattle.table.specs.Rows.{lookup}
use Rattle.terms.specs.Terms.{end}
use Rattle.views.specs.declared.Viewable as viewable
use Rattle.history.specs.Calls.{Call, evidence, verdict, marker, request, is_nullification, is_finalization, some, highest, marked, finalized, floor, current, notarized, judged, failed, last_finalization, first_nullification, last_passed}

-- a verdict at a view passed it last, or failed it once
pub judged_either : {R : Type 0} (viewed : R → ℕ) (sort : R → Kind) (v : ℕ) (h : List (Call R)) → judged viewed sort v h ≡ (is_some (last_passed viewed sort v h) || failed viewed sort v h)
unfolding some last_passed
judged_either viewed sort v [] = refl
judged_either viewed sort v (evidence x ∷ h) = judged_either viewed sort v h
judged_either viewed sort v (verdict b x ∷ h) = let a = judged_either viewed sort v h in grind (arith, common_steps)
judged_either viewed sort v (marker ∷ h) = judged_either viewed sort v h
judged_either viewed sort v (request w k t ∷ h) = judged_either viewed sort v h

module _ {R : Type 0} {g : viewable.Ghosts R} (sort : R → Kind) (L : ℕ) where
  pub record Recorded (h : List (Call R)) (s : Values R g) : Type 0 where
    pub floor : s.floor ≡ floor g.viewed sort h
    pub current : s.current ≡ current g.viewed sort h
    pub replaying : s.replaying ≡ not (marked h)
    pub finalization : s.finalization ≡ last_finalization g.viewed sort h
    pub top : finalized_in s ≡ finalized g.viewed sort h
    pub nullifications : (v : ℕ) → lookup g.viewed v s.nullifications ≡ cond (ltb (finalized_in s) (end L v)) (first_nullification g.viewed sort v h) None
    pub pending : (v : ℕ) → is_pending v s ≡ (ltb (finalized_in s) v && (notarized g.viewed sort v h && not (judged g.viewed sort v h)))
    pub certified : (v : ℕ) → lookup g.viewed v s.certified ≡ cond (ltb (finalized_in s) v) (last_passed g.viewed sort v h) None
    pub failed : (v : ℕ) → has_failed v s ≡ (ltb (finalized_in s) v && failed g.viewed sort v h)

  recorded_nullification : (x : R) → sort x ≡ Nullification → (h : List (Call R)) (s : Values R g) → Recorded h s → Recorded (evidence x ∷ h) (updated L Nullification x s)
  unfolding planned before_planning with_nullification some highest last_finalization first_nullification last_passed
  recorded_nullification x e h s r =
      let n = ap is_nullification e in
      let m = ap is_notarization e in
      let f = ap is_finalization e in
      record {
        floor = let a = r.floor in grind (arith, common_steps);
        current = let a = r.current in grind (arith, common_steps);
        replaying = r.replaying;
        finalization = let a = r.finalization in grind (arith, common_steps);
        top = let a = r.top in grind (arith, common_steps);
        nullifications = λ v. let a = r.nullifications v in let b = r.nullifications (g.viewed x) in let o = one_more g.viewed x s.nullifications v in grind (arith, common_steps);
        pending = λ v. let a = r.pending v in grind (arith, common_steps);
        certified = r.certified;
        failed = r.failed;
      }

  recorded_notarization : (x : R) → sort x ≡ Notarization → (h : List (Call R)) (s : Values R g) → Recorded h s → Recorded (evidence x ∷ h) (updated L Notarization x s)
  unfolding planned before_planning with_notarization some highest last_finalization first_nullification last_passed
  recorded_notarization x e h s r =
      let n = ap is_nullification e in
      let m = ap is_notarization e in
      let f = ap is_finalization e in
      record {
        floor = let a = r.floor in grind (arith, common_steps);
        current = let a = r.current in grind (arith, common_steps);
        replaying = r.replaying;
        finalization = let a = r.finalization in grind (arith, common_steps);
        top = let a = r.top in grind (arith, common_steps);
        nullifications = λ v. let a = r.nullifications v in let b = r.nullifications (g.viewed x) in grind (arith, common_steps);
        pending = λ v.
            let a = r.pending v in
            let b = r.failed v in
            let c = r.certified v in
            let b' = r.failed (g.viewed x) in
            let c' = r.certified (g.viewed x) in
            let j = judged_either g.viewed sort v h in
            let j' = judged_either g.viewed sort (g.viewed x) h in
            let o = one_more mark_view (mark (g.viewed x)) s.pending v in
            grind (arith, common_steps);
        certified = r.certified;
        failed = r.failed;
      }

  recorded_finalization : (x : R) → sort x ≡ Finalization → (h : List (Call R)) (s : Values R g) → Recorded h s → Recorded (evidence x ∷ h) (updated L Finalization x s)
  unfolding planned before_planning finalization_taken finalized_at pruned raised some highest last_finalization first_nullification last_passed
  recorded_finalization x e h s r =
      let n = ap is_nullification e in
      let m = ap is_notarization e in
      let f = ap is_finalization e in
      let top = r.top in
      let w = view_of g.viewed (cond (ltb (finalized_in s) (g.viewed x)) (Some x) s.finalization) in
      record {
        floor = let a = r.floor in grind (arith, common_steps);
        current = let a = r.current in grind (arith, common_steps);
        replaying = r.replaying;
        finalization = let a = r.finalization in grind (arith, common_steps);
        top = grind (arith, common_steps);
        nullifications = λ v. let a = r.nullifications v in let o = only_kept g.viewed (λ u. ltb w (end L u)) s.nullifications v in grind (arith, common_steps);
        pending = λ v. let a = r.pending v in let o = only_kept mark_view (λ u. ltb w u) s.pending v in grind (arith, common_steps);
        certified = λ v. let a = r.certified v in let o = only_kept g.viewed (λ u. ltb w u) s.certified v in grind (arith, common_steps);
        failed = λ v. let a = r.failed v in let o = only_kept mark_view (λ u. ltb w u) s.failed v in grind (arith, common_steps);
      }

  of_kind : (k : Kind) (x : R) → sort x ≡ k → (h : List (Call R)) (s : Values R g) → Recorded h s → Recorded (evidence x ∷ h) (updated L k x s)
  of_kind Nullification x e h s r = recorded_nullification x e h s r
  of_kind Notarization x e h s r = recorded_notarization x e h s r
  of_kind Finalization x e h s r = recorded_finalization x e h s r

  pub recorded_evidence : (x : R) (h : List (Call R)) (s : Values R g) → Recorded h s → Recorded (evidence x ∷ h) (updated L (sort x) x s)
  recorded_evidence x h s r = of_kind (sort x) x refl h s r

  recorded_passed : (x : R) (h : List (Call R)) (s : Values R g) → Recorded h s → Recorded (verdict true x ∷ h) (certified L true x s)
  unfolding planned passing certified_at raised some highest last_finalization first_nullification last_passed
  recorded_passed x h s r = record {
    floor = let a = r.floor in grind (arith, common_steps);
    current = let a = r.current in grind (arith, common_steps);
    replaying = r.replaying;
    finalization = let a = r.finalization in grind (arith, common_steps);
    top = let a = r.top in grind (arith, common_steps);
    nullifications = λ v. let a = r.nullifications v in grind (arith, common_steps);
    pending = λ v. let a = r.pending v in let o = one_less mark_view (g.viewed x) s.pending v in grind (arith, common_steps);
    certified = λ v. let a = r.certified v in let o = one_more g.viewed x s.certified v in grind (arith, common_steps);
    failed = λ v. let a = r.failed v in grind (arith, common_steps);
  }

  recorded_failed : (x : R) (h : List (Call R)) (s : Values R g) → Recorded h s → Recorded (verdict false x ∷ h) (certified L false x s)
  unfolding failing failed_at some highest last_finalization first_nullification last_passed
  recorded_failed x h s r = record {
    floor = let a = r.floor in grind (arith, common_steps);
    current = let a = r.current in grind (arith, common_steps);
    replaying = r.replaying;
    finalization = let a = r.finalization in grind (arith, common_steps);
    top = let a = r.top in grind (arith, common_steps);
    nullifications = λ v. let a = r.nullifications v in grind (arith, common_steps);
    pending = λ v. let a = r.pending v in let o = one_less mark_view (g.viewed x) s.pending v in grind (arith, common_steps);
    certified = λ v. let a = r.certified v in let o = one_less g.viewed (g.viewed x) s.certified v in grind (arith, common_steps);
    failed = λ v. let a = r.failed v in let o = one_more mark_view (mark (g.viewed x)) s.failed v in grind (arith, common_steps);
  }

  pub recorded_verdict : (b : Bool) (x : R) (h : List (Call R)) (s : Values R g) → Recorded h s → Recorded (verdict b x ∷ h) (certified L b x s)
  recorded_verdict true x h s r = recorded_passed x h s r
  recorded_verdict false x h s r = recorded_failed x h s r

  pub recorded_marker : (h : List (Call R)) (s : Values R g) → Recorded h s → Recorded (marker ∷ h) (replayed L s)
  unfolding planned some highest last_finalization first_nullification last_passed
  recorded_marker h s r = record {
    floor = let a = r.floor in grind (arith, common_steps);
    current = let a = r.current in grind (arith, common_steps);
    replaying = refl;
    finalization = let a = r.finalization in grind (arith, common_steps);
    top = let a = r.top in grind (arith, common_steps);
    nullifications = λ v. let a = r.nullifications v in grind (arith, common_steps);
    pending = r.pending;
    certified = r.certified;
    failed = r.failed;
  }

  pub recorded_request : (v : ℕ) (k : _) (t : Option ℕ) (h : List (Call R)) (s : Values R g) → Recorded h s → Recorded (request v k t ∷ h) s
  unfolding some highest last_finalization first_nullification last_passed
  recorded_request w k t h s r = record {
    floor = let a = r.floor in grind (arith, common_steps);
    current = let a = r.current in grind (arith, common_steps);
    replaying = r.replaying;
    finalization = let a = r.finalization in grind (arith, common_steps);
    top = let a = r.top in grind (arith, common_steps);
    nullifications = λ v. let a = r.nullifications v in grind (arith, common_steps);
    pending = r.pending;
    certified = r.certified;
    failed = r.failed;
  }

  pub recorded_made : Recorded [] fresh
  unfolding fresh some highest last_finalization first_nullification last_passed
  recorded_made = record {
    floor = refl;
    current = refl;
    replaying = refl;
    finalization = refl;
    top = refl;
    nullifications = λ v. let a = nothing_found g.viewed v in grind (arith, common_steps);
    pending = λ v. let a = nothing_found mark_view v in grind (arith, common_steps);
    certified = λ v. let a = nothing_found g.viewed v in grind (arith, common_steps);
    failed = λ v. let a = nothing_found mark_view v in grind (arith, common_steps);
  }
