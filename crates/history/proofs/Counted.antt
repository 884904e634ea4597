-- How many rows and asks there are, and which gaps, by the accepted calls.
use Rattle.std.proofs.Common.{◌≡◌, ℕ, zero, suc, ◌+◌, ◌<◌, ◌≤◌, Bool, true, not, ◌&&◌, eqb, List, [], ◌∷◌, is_some, filter, sym, refl, ◌∙◌, arith}
use Rattle.std.specs.Set.{is_member}
use Rattle.std.proofs.lemmas.Bool.{true≢false, cases_eq, lt-ltb}
use Rattle.std.proofs.lemmas.Cmp.{nat_eq_equiv}
use Rattle.std.proofs.lemmas.Grind.{common_steps}
use Rattle.effects.specs.declared.effect.Kind.{Kind as Ask}
use Rattle.planning.proofs.Gaps.{same_gaps}
use Rattle.planning.specs.Gaps.{counted, gaps as anchors}
use Rattle.record.specs.declared.kind.Kind.{Kind}
use Rattle.state.specs.Answers.{is_notarization}
use Rattle.store.specs.Values.{Values, is_covered, gaps_of}
use Rattle.views.specs.declared.Viewable as viewable
use Rattle.history.specs.Calls.{Call, evidence, verdict, marker, request, is_nullification, some, highest, by_evidence, by_verdict, requested, finalized, floor, current, nullified, notarized, failed, first_nullification, last_passed, covered, is_gap, gaps}
use Rattle.history.specs.Rules.{view_in, request_in, all_in}
use Rattle.history.proofs.Recorded.{Recorded}
use Rattle.history.proofs.Told.{covered_alike}

module _ {R : Type 0} (viewed : R → ℕ) (sort : R → Kind) where
  -- a view that some record is at is among the views
  names_evidence : (p : R → Bool) (v : ℕ) (h : List (Call R)) → some (by_evidence (λ x. p x && eqb (viewed x) v)) h ≡ true → is_member eqb (all_in (view_in viewed) h) v ≡ true
  unfolding some all_in
  names_evidence p v [] t = absurd (true≢false (sym t))
  names_evidence p v (evidence x ∷ h) t = let i = names_evidence p v h in let e = cases_eq (viewed x) v in let w = nat_eq_equiv.symm (viewed x) v in grind (arith, common_steps)
  names_evidence p v (verdict b x ∷ h) t = let i = names_evidence p v h t in grind (arith, common_steps)
  names_evidence p v (marker ∷ h) t = names_evidence p v h t
  names_evidence p v (request w k a ∷ h) t = names_evidence p v h t

  names_verdict : (p : Bool → Bool) (v : ℕ) (h : List (Call R)) → some (by_verdict (λ b x. p b && eqb (viewed x) v)) h ≡ true → is_member eqb (all_in (view_in viewed) h) v ≡ true
  unfolding some all_in
  names_verdict p v [] t = absurd (true≢false (sym t))
  names_verdict p v (evidence x ∷ h) t = let i = names_verdict p v h t in grind (arith, common_steps)
  names_verdict p v (verdict b x ∷ h) t = let i = names_verdict p v h in let w = nat_eq_equiv.symm (viewed x) v in grind (arith, common_steps)
  names_verdict p v (marker ∷ h) t = names_verdict p v h t
  names_verdict p v (request w k a ∷ h) t = names_verdict p v h t

  pub names_passed : (v : ℕ) (h : List (Call R)) → is_some (last_passed viewed sort v h) ≡ true → is_member eqb (all_in (view_in viewed) h) v ≡ true
  unfolding last_passed all_in
  names_passed v [] t = absurd (true≢false (sym t))
  names_passed v (evidence x ∷ h) t = let i = names_passed v h t in grind (arith, common_steps)
  names_passed v (verdict b x ∷ h) t = let i = names_passed v h in let w = nat_eq_equiv.symm (viewed x) v in grind (arith, common_steps)
  names_passed v (marker ∷ h) t = names_passed v h t
  names_passed v (request w k a ∷ h) t = names_passed v h t

  pub names_nullified : (v : ℕ) (h : List (Call R)) → nullified viewed sort v h ≡ true → is_member eqb (all_in (view_in viewed) h) v ≡ true
  names_nullified v h t = names_evidence (λ x. is_nullification (sort x)) v h t

  pub names_notarized : (v : ℕ) (h : List (Call R)) → notarized viewed sort v h ≡ true → is_member eqb (all_in (view_in viewed) h) v ≡ true
  names_notarized v h t = names_evidence (λ x. is_notarization (sort x)) v h t

  pub names_failed : (v : ℕ) (h : List (Call R)) → failed viewed sort v h ≡ true → is_member eqb (all_in (view_in viewed) h) v ≡ true
  names_failed v h t = names_verdict not v h t

  pub nullified_if_found : (v : ℕ) (h : List (Call R)) → nullified viewed sort v h ≡ is_some (first_nullification viewed sort v h)
  unfolding some first_nullification
  nullified_if_found v [] = refl
  nullified_if_found v (evidence x ∷ h) = let i = nullified_if_found v h in grind (arith, common_steps)
  nullified_if_found v (verdict b x ∷ h) = let i = nullified_if_found v h in grind (arith, common_steps)
  nullified_if_found v (marker ∷ h) = let i = nullified_if_found v h in grind (arith, common_steps)
  nullified_if_found v (request w k a ∷ h) = let i = nullified_if_found v h in grind (arith, common_steps)

  -- the floor is never below the finalized view
  pub finalized_low : (h : List (Call R)) → finalized viewed sort h ≤ floor viewed sort h
  unfolding highest
  finalized_low [] = omega arith
  finalized_low (evidence x ∷ h) = omega (arith, finalized_low h)
  finalized_low (verdict b x ∷ h) = omega (arith, finalized_low h)
  finalized_low (marker ∷ h) = omega (arith, finalized_low h)
  finalized_low (request w k a ∷ h) = omega (arith, finalized_low h)

-- the requested views
pub names_requested : {R : Type 0} (k : Ask) (v : ℕ) (h : List (Call R)) → is_member eqb (all_in (request_in k) h) v ≡ requested k v h
unfolding some all_in
names_requested k v [] = refl
names_requested k v (evidence x ∷ h) = names_requested k v h
names_requested k v (verdict b x ∷ h) = names_requested k v h
names_requested k v (marker ∷ h) = names_requested k v h
names_requested k v (request w j a ∷ h) = let i = names_requested k v h in let f = nat_eq_equiv.symm w v in grind (arith, common_steps)

same_in_span : (p q : ℕ → Bool) (low n : ℕ) → ((v : ℕ) → low ≤ v → v < low + n → p v ≡ q v) → filter p (counted low n) ≡ filter q (counted low n)
same_in_span p q low zero same = refl
same_in_span p q low (suc n) same =
    let i = same_in_span p q (low + 1) n (λ v lo hi. same v (omega arith) (omega arith)) in
    let e = same low (omega arith) (omega arith) in
    grind (arith, common_steps)

module _ {R : Type 0} {g : viewable.Ghosts R} (sort : R → Kind) (L : ℕ) (positive : 0 < L) (h : List (Call R)) (s : Values R g) (r : Recorded sort L h s) where
  pub gaps_alike : gaps_of L s ≡ gaps g.viewed sort L h
  unfolding anchors
  gaps_alike =
      let low = finalized_low g.viewed sort h in
      let top = r.top in
      let cov = same_gaps L positive (λ v. covered g.viewed sort L v h) (is_covered L s) (s.floor + 1) s.current (λ v lo hi. covered_alike sort L positive h s r v (omega (arith, r.floor))) in
      cov ∙ rw (r.floor, r.current) (same_in_span _ (λ v. is_gap g.viewed sort L v h) (floor g.viewed sort h + 1) _ (λ v lo hi. (let a = lt-ltb (floor g.viewed sort h) v (omega arith) in let b = lt-ltb v (current g.viewed sort h) (omega arith) in grind (arith, common_steps))))
