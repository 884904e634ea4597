-- What the effects of each call tell the board.
use Rattle.std.proofs.Common.{◌≡◌, ℕ, ◌<◌, ◌≤◌, Bool, true, false, not, ◌&&◌, ◌||◌, ltb, leb, eqb, List, [], ◌∷◌, map, None, filter, Option, sym, refl, ap, ◌∙◌, inl, inr, arith}
use Rattle.std.specs.List.{list_any}
use Rattle.std.proofs.lemmas.Bool.{both_ways, cases_eq, eqb-true, eq-eqb, ne_eqb}
use Rattle.std.proofs.lemmas.Grind.{common_steps}
use Rattle.std.proofs.lemmas.List.Folds.{list_any-append}
use Rattle.board.specs.Asks.{same_kind}
use Rattle.board.specs.Boards.{opened}
use Rattle.board.specs.declared.ask.Ask.TheVariants.{Background, Ancestry}
use Rattle.board.specs.declared.open.Open.{Open}
use Rattle.effects.specs.declared.effect.Kind.{Kind as Ask}
use Rattle.effects.specs.declared.effect.Kind.TheVariants as ask
use Rattle.planning.specs.Gaps.{among, missing}
use Rattle.record.specs.declared.kind.Kind.{Kind}
use Rattle.record.specs.declared.kind.Kind.TheVariants.{Notarization, Nullification, Finalization}
use Rattle.state.specs.Answers.{is_notarization}
use Rattle.lawful.specs.Lawful.{Lawful}
use Rattle.state.specs.Settled.{settled}
use Rattle.store.specs.Steps.{failed_fetch, nullified_effects, notarized_effects, finalization_effects, raised_effects, taken_effects, planned_effects, updated, updated_effects, before_planning, seen, finalized_at, nullified as with_nullification, notarized as with_notarization, finalization_taken, pruned, raised, planned, certified, certified_effects, failing_effects, passing, certified_at, failing, failed_at, passed as with_passed, replayed, replayed_effects, failed_bare, is_bare, ended}
use Rattle.store.specs.Values.{Values, mark_view, finalized as finalized_in, has_failed, is_covered, unplanned}
use Rattle.terms.proofs.Laws.{to_the_end}
use Rattle.views.specs.declared.Viewable as viewable
use Rattle.history.specs.Calls.{Call, evidence, verdict, is_nullification, is_finalization, some, highest, failed}
use Rattle.history.proofs.Asks.{gaps_member, failed_member, fetches_failed, failed_fetched, bare, Tells}
use Rattle.history.proofs.Boards.{ends, fetches}
use Rattle.history.proofs.Recorded.{Recorded, judged_either}
use Rattle.history.proofs.Told.{covered_alike, settled_alike}

-- planning ends nothing and fetches no failed view
missing_ends : (o : Open) (cause : ℕ) (vs : List ℕ) → list_any (ends o) (map (missing cause) vs) ≡ false
missing_ends o cause [] = refl
missing_ends o cause (v ∷ vs) = missing_ends o cause vs

missing_failed : (v cause : ℕ) (vs : List ℕ) → failed_fetched v (map (missing cause) vs) ≡ false
missing_failed v cause [] = refl
missing_failed v cause (x ∷ vs) = missing_failed v cause vs

module _ {R : Type 0} {g : viewable.Ghosts R} (L : ℕ) (cause : ℕ) (s : Values R g) where
  plan_ends : (o : Open) → list_any (ends o) (planned_effects L cause s) ≡ false
  unfolding planned_effects
  plan_ends o = let m = missing_ends o cause (unplanned L s) in grind (arith, common_steps)

  plan_failed : (v : ℕ) → failed_fetched v (planned_effects L cause s) ≡ false
  unfolding planned_effects
  plan_failed v = let m = missing_failed v cause (unplanned L s) in grind (arith, common_steps)

  plan_quiet : (v : ℕ) → s.replaying ≡ true → list_any (fetches v) (planned_effects L cause s) ≡ false
  unfolding planned_effects
  plan_quiet v on = rw on refl

module _ {R : Type 0} {g : viewable.Ghosts R} (L : ℕ) where
  taken_failed : (k : Kind) (x : R) (s : Values R g) (v : ℕ) → failed_fetched v (taken_effects L k x s) ≡ false
  unfolding nullified_effects notarized_effects finalization_effects raised_effects
  taken_failed Nullification x s v = grind (arith, common_steps)
  taken_failed Notarization x s v = grind (arith, common_steps)
  taken_failed Finalization x s v = grind (arith, common_steps)

  taken_fetches : (k : Kind) (x : R) (s : Values R g) (v : ℕ) → list_any (fetches v) (taken_effects L k x s) ≡ false
  unfolding nullified_effects notarized_effects finalization_effects raised_effects
  taken_fetches Nullification x s v = grind (arith, common_steps)
  taken_fetches Notarization x s v = grind (arith, common_steps)
  taken_fetches Finalization x s v = grind (arith, common_steps)

module _ {R : Type 0} {g : viewable.Ghosts R} (L : ℕ) (k : Kind) (x : R) (s : Values R g) where
  -- of the effects of evidence those of planning end nothing, and those before them fetch nothing
  evidence_ends : (o : Open) → list_any (ends o) (updated_effects L k x s) ≡ list_any (ends o) (taken_effects L k x (seen L (g.viewed x) s))
  evidence_ends o = list_any-append (ends o) (taken_effects L k x (seen L (g.viewed x) s)) _ ∙ (let p = plan_ends L (g.viewed x) (before_planning L k x s) o in grind (arith, common_steps))

  evidence_failed : (v : ℕ) → failed_fetched v (updated_effects L k x s) ≡ false
  evidence_failed v = list_any-append (fetches_failed v) (taken_effects L k x (seen L (g.viewed x) s)) _ ∙ (let p = plan_failed L (g.viewed x) (before_planning L k x s) v in let q = taken_failed L k x (seen L (g.viewed x) s) v in grind (arith, common_steps))

  evidence_quiet : (v : ℕ) → (before_planning L k x s).replaying ≡ true → list_any (fetches v) (updated_effects L k x s) ≡ false
  evidence_quiet v on = list_any-append (fetches v) (taken_effects L k x (seen L (g.viewed x) s)) _ ∙ (let p = plan_quiet L (g.viewed x) (before_planning L k x s) v on in let q = taken_fetches L k x (seen L (g.viewed x) s) v in grind (arith, common_steps))

module _ {R : Type 0} {g : viewable.Ghosts R} (sort : R → Kind) (L : ℕ) (positive : 0 < L) (h : List (Call R)) (s : Values R g) (ok : Lawful L s) (r : Recorded sort L h s) where
  module _ (x : R) (t : Values R g) (r' : Recorded sort L (evidence x ∷ h) t) (ok' : Lawful L t) where
    -- what evidence of a kind says, by what its own effects end
    tells_of : (k : Kind) → s.floor ≤ t.floor → t.replaying ≡ s.replaying → (before_planning L k x s).replaying ≡ s.replaying
        → ((v : ℕ) → bare L v s ≡ true → list_any (ends (opened v Background None)) (taken_effects L k x (seen L (g.viewed x) s)) ≡ not (bare L v t))
        → ((a : Ask) (v : ℕ) (seat : Option ℕ) → settled L a v s ≡ false → list_any (ends (opened v (Ancestry a) seat)) (taken_effects L k x (seen L (g.viewed x) s)) ≡ settled L a v t)
        → ((v : ℕ) → bare L v t ≡ true → has_failed v t ≡ has_failed v s)
        → Tells L s t (updated_effects L k x s)
    tells_of k floor on before background ancestry failed = record {
      floor = floor;
      low = ok'.sound.floor_finalized;
      replay = λ q. sym on ∙ q;
      quiet = λ v q. evidence_quiet L k x s v (before ∙ (sym on ∙ q));
      ends_background = λ v free. evidence_ends L k x s (opened v Background None) ∙ background v free;
      ends_ancestry = λ a v seat open'. evidence_ends L k x s (opened v (Ancestry a) seat) ∙ ancestry a v seat open';
      failed_more = λ v over free. let a = failed v free in let b = evidence_failed L k x s v in grind (arith, common_steps);
      failed_only = λ v q. absurd (both_ways _ (evidence_failed L k x s v) q);
    }

    nullification_background : sort x ≡ Nullification → t.floor ≡ s.floor → (v : ℕ) → bare L v s ≡ true → list_any (ends (opened v Background None)) (taken_effects L Nullification x (seen L (g.viewed x) s)) ≡ not (bare L v t)
    unfolding nullified_effects some highest
    nullification_background e up v free =
        let n = ap is_nullification e in
        let d = to_the_end L positive (g.viewed x) v in
        let c = covered_alike sort L positive h s r v in
        let c' = covered_alike sort L positive (evidence x ∷ h) t r' v in
        let l = ok.sound.floor_finalized in
        let l' = ok'.sound.floor_finalized in
        grind (arith, common_steps)

    nullification_ancestry : sort x ≡ Nullification → (k : Ask) (v : ℕ) (seat : Option ℕ) → settled L k v s ≡ false → list_any (ends (opened v (Ancestry k) seat)) (taken_effects L Nullification x (seen L (g.viewed x) s)) ≡ settled L k v t
    unfolding nullified_effects some highest
    nullification_ancestry e ask.Nullification v seat open' =
        let n = ap is_nullification e in
        let f = ap is_finalization e in
        let d = to_the_end L positive (g.viewed x) v in
        let c = settled_alike sort L positive h s r ask.Nullification v in
        let c' = settled_alike sort L positive (evidence x ∷ h) t r' ask.Nullification v in
        let top = r.top in
        grind (arith, common_steps)
    nullification_ancestry e ask.Notarization v seat open' =
        let m = ap is_notarization e in
        let f = ap is_finalization e in
        let c = settled_alike sort L positive h s r ask.Notarization v in
        let c' = settled_alike sort L positive (evidence x ∷ h) t r' ask.Notarization v in
        grind (arith, common_steps)

    tells_nullification : sort x ≡ Nullification → t ≡ updated L Nullification x s → Tells L s t (updated_effects L Nullification x s)
    unfolding planned before_planning with_nullification
    tells_nullification e is =
        let up : t.floor ≡ s.floor = ap (λ w. w.floor) is in
        tells_of Nullification (omega (arith, up)) (ap (λ w. w.replaying) is) refl (nullification_background e up) (nullification_ancestry e) (λ v free. ap (has_failed v) is)

    notarization_background : sort x ≡ Notarization → t.floor ≡ s.floor → (v : ℕ) → bare L v s ≡ true → list_any (ends (opened v Background None)) (taken_effects L Notarization x (seen L (g.viewed x) s)) ≡ not (bare L v t)
    unfolding notarized_effects some highest
    notarization_background e up v free =
        let n = ap is_nullification e in
        let c = covered_alike sort L positive h s r v in
        let c' = covered_alike sort L positive (evidence x ∷ h) t r' v in
        let l = ok.sound.floor_finalized in
        let l' = ok'.sound.floor_finalized in
        grind (arith, common_steps)

    notarization_ancestry : sort x ≡ Notarization → (k : Ask) (v : ℕ) (seat : Option ℕ) → settled L k v s ≡ false → list_any (ends (opened v (Ancestry k) seat)) (taken_effects L Notarization x (seen L (g.viewed x) s)) ≡ settled L k v t
    unfolding notarized_effects some highest
    notarization_ancestry e ask.Nullification v seat open' =
        let n = ap is_nullification e in
        let f = ap is_finalization e in
        let c = settled_alike sort L positive h s r ask.Nullification v in
        let c' = settled_alike sort L positive (evidence x ∷ h) t r' ask.Nullification v in
        grind (arith, common_steps)
    notarization_ancestry e ask.Notarization v seat open' =
        let m = ap is_notarization e in
        let f = ap is_finalization e in
        let c = settled_alike sort L positive h s r ask.Notarization v in
        let c' = settled_alike sort L positive (evidence x ∷ h) t r' ask.Notarization v in
        let failed = r.failed v in
        let j = judged_either g.viewed sort v h in
        let top = r.top in
        grind (arith, common_steps)

    tells_notarization : sort x ≡ Notarization → t ≡ updated L Notarization x s → Tells L s t (updated_effects L Notarization x s)
    unfolding planned before_planning with_notarization
    tells_notarization e is =
        let up : t.floor ≡ s.floor = ap (λ w. w.floor) is in
        tells_of Notarization (omega (arith, up)) (ap (λ w. w.replaying) is) refl (notarization_background e up) (notarization_ancestry e) (λ v free. ap (has_failed v) is)

    finalization_background : sort x ≡ Finalization → (v : ℕ) → bare L v s ≡ true → list_any (ends (opened v Background None)) (taken_effects L Finalization x (seen L (g.viewed x) s)) ≡ not (bare L v t)
    unfolding finalization_effects finalized_at raised_effects some highest
    finalization_background e v free =
        let n = ap is_nullification e in
        let f = ap is_finalization e in
        let c = covered_alike sort L positive h s r v in
        let c' = covered_alike sort L positive (evidence x ∷ h) t r' v in
        let l = ok.sound.floor_finalized in
        let l' = ok'.sound.floor_finalized in
        let top = r.top in
        let top' = r'.top in
        let floor = r.floor in
        let floor' = r'.floor in
        grind (arith, common_steps)

    finalization_ancestry : sort x ≡ Finalization → (k : Ask) (v : ℕ) (seat : Option ℕ) → settled L k v s ≡ false → list_any (ends (opened v (Ancestry k) seat)) (taken_effects L Finalization x (seen L (g.viewed x) s)) ≡ settled L k v t
    unfolding finalization_effects finalized_at raised_effects some highest
    finalization_ancestry e ask.Nullification v seat open' =
        let n = ap is_nullification e in
        let f = ap is_finalization e in
        let c = settled_alike sort L positive h s r ask.Nullification v in
        let c' = settled_alike sort L positive (evidence x ∷ h) t r' ask.Nullification v in
        let top = r.top in
        grind (arith, common_steps)
    finalization_ancestry e ask.Notarization v seat open' =
        let m = ap is_notarization e in
        let f = ap is_finalization e in
        let c = settled_alike sort L positive h s r ask.Notarization v in
        let c' = settled_alike sort L positive (evidence x ∷ h) t r' ask.Notarization v in
        let top = r.top in
        grind (arith, common_steps)

    finalization_floor : t ≡ updated L Finalization x s → s.floor ≤ t.floor
    unfolding planned before_planning finalization_taken finalized_at pruned raised
    finalization_floor is = let up = ap (λ w. w.floor) is in grind (arith, common_steps)

    finalization_failed : t ≡ updated L Finalization x s → sort x ≡ Finalization → (v : ℕ) → bare L v t ≡ true → has_failed v t ≡ has_failed v s
    unfolding some highest
    finalization_failed is e v free =
        let f = ap is_finalization e in
        let l' = ok'.sound.floor_finalized in
        let a = r.failed v in
        let b = r'.failed v in
        let top = r.top in
        let top' = r'.top in
        grind (arith, common_steps)

    tells_finalization : sort x ≡ Finalization → t ≡ updated L Finalization x s → Tells L s t (updated_effects L Finalization x s)
    unfolding planned before_planning finalization_taken finalized_at pruned raised
    tells_finalization e is =
        tells_of Finalization (finalization_floor is) (ap (λ w. w.replaying) is) refl (finalization_background e) (finalization_ancestry e) (finalization_failed is e)

    of_kind : (k : Kind) → sort x ≡ k → t ≡ updated L k x s → Tells L s t (updated_effects L k x s)
    of_kind Nullification e is = tells_nullification e is
    of_kind Notarization e is = tells_notarization e is
    of_kind Finalization e is = tells_finalization e is

    pub tells_evidence : t ≡ updated L (sort x) x s → Tells L s t (updated_effects L (sort x) x s)
    tells_evidence is = of_kind (sort x) refl is

  module _ (x : R) (t : Values R g) (ok' : Lawful L t) where
    passed_background : Recorded sort L (verdict true x ∷ h) t → (v : ℕ) → bare L v s ≡ true → list_any (ends (opened v Background None)) (raised_effects L (g.viewed x) s) ≡ not (bare L v t)
    unfolding raised_effects some highest
    passed_background r' v free =
        let c = covered_alike sort L positive h s r v in
        let c' = covered_alike sort L positive (verdict true x ∷ h) t r' v in
        let l = ok.sound.floor_finalized in
        let l' = ok'.sound.floor_finalized in
        let floor = r.floor in
        let floor' = r'.floor in
        grind (arith, common_steps)

    judged_ancestry : (b : Bool) → Recorded sort L (verdict b x ∷ h) t → (k : Ask) (v : ℕ) → settled L k v s ≡ false → (same_kind k ask.Notarization && (leb (g.viewed x) v && leb v (g.viewed x))) ≡ settled L k v t
    unfolding some highest
    judged_ancestry b r' ask.Nullification v open' =
        let c = settled_alike sort L positive h s r ask.Nullification v in
        let c' = settled_alike sort L positive (verdict b x ∷ h) t r' ask.Nullification v in
        let top = r.top in
        grind (arith, common_steps)
    judged_ancestry b r' ask.Notarization v open' =
        let c = settled_alike sort L positive h s r ask.Notarization v in
        let c' = settled_alike sort L positive (verdict b x ∷ h) t r' ask.Notarization v in
        let top = r.top in
        grind (arith, common_steps)

    raise_ends : (k : Ask) (v : ℕ) (seat : Option ℕ) → list_any (ends (opened v (Ancestry k) seat)) (raised_effects L (g.viewed x) s) ≡ false
    unfolding raised_effects
    raise_ends k v seat = grind (arith, common_steps)

    raise_quiet : (v : ℕ) → (list_any (fetches v) (raised_effects L (g.viewed x) s) ≡ false) × (failed_fetched v (raised_effects L (g.viewed x) s) ≡ false)
    unfolding raised_effects
    raise_quiet v = (grind (arith, common_steps), grind (arith, common_steps))

    tells_passed : Recorded sort L (verdict true x ∷ h) t → t ≡ certified L true x s → Tells L s t (certified_effects L true x s)
    unfolding planned passing certified_at raised
    tells_passed r' is =
        let on : t.replaying ≡ s.replaying = ap (λ w. w.replaying) is in
        let more = planned_effects L (g.viewed x) (with_passed L x s) in
        let floor : s.floor ≤ t.floor = let up = ap (λ w. w.floor) is in grind (arith, common_steps) in
        let failed : (v : ℕ) → failed_fetched v (certified_effects L true x s) ≡ false = λ v. list_any-append (fetches_failed v) (raised_effects L (g.viewed x) s) more ∙ (let p = plan_failed L (g.viewed x) (with_passed L x s) v in let q = (raise_quiet v).1 in grind (arith, common_steps)) in
        record {
          floor = floor;
          low = ok'.sound.floor_finalized;
          replay = λ q. sym on ∙ q;
          quiet = λ v q. list_any-append (fetches v) (raised_effects L (g.viewed x) s) more ∙ (let p = plan_quiet L (g.viewed x) (with_passed L x s) v (sym on ∙ q) in let o = (raise_quiet v).0 in grind (arith, common_steps));
          ends_background = λ v free. list_any-append (ends (opened v Background None)) (raised_effects L (g.viewed x) s) more ∙ (let p = plan_ends L (g.viewed x) (with_passed L x s) (opened v Background None) in let e = passed_background r' v free in grind (arith, common_steps));
          ends_ancestry = λ k v seat open'.
              let all = list_any-append (ends (opened v (Ancestry k) seat)) (raised_effects L (g.viewed x) s) more in
              let p = plan_ends L (g.viewed x) (with_passed L x s) (opened v (Ancestry k) seat) in
              let o = raise_ends k v seat in
              let e = judged_ancestry true r' k v open' in
              grind (arith, common_steps);
          failed_more = λ v over free. let a : has_failed v t ≡ has_failed v s = ap (has_failed v) is in let b = failed v in grind (arith, common_steps);
          failed_only = λ v q. absurd (both_ways _ (failed v) q);
        }

    failed_now : Recorded sort L (verdict false x ∷ h) t → (v : ℕ) → has_failed v t ≡ (ltb (finalized_in t) v && (eqb (g.viewed x) v || failed g.viewed sort v h))
    unfolding some
    failed_now r' v = r'.failed v

    failing_says : (v : ℕ) → failed_fetched v (certified_effects L false x s) ≡ true → (eqb (g.viewed x) v ≡ true) × (bare L (g.viewed x) s ≡ true)
    unfolding failing_effects
    failing_says v q = (grind (arith, common_steps), grind (arith, common_steps))

    tells_failed : Recorded sort L (verdict false x ∷ h) t → t ≡ certified L false x s → Tells L s t (certified_effects L false x s)
    unfolding failing failed_at failing_effects
    tells_failed r' is =
        let on : t.replaying ≡ s.replaying = ap (λ w. w.replaying) is in
        let floor : t.floor ≡ s.floor = ap (λ w. w.floor) is in
        let cov : (v : ℕ) → is_covered L t v ≡ is_covered L s v = λ v. ap (λ w. is_covered L w v) is in
        let f : finalized_in t ≡ finalized_in s = ap finalized_in is in
        record {
          floor = omega (arith, floor);
          low = ok'.sound.floor_finalized;
          replay = λ q. sym on ∙ q;
          quiet = λ v q. let w = sym on ∙ q in grind (arith, common_steps);
          ends_background = λ v free. let c = cov v in grind (arith, common_steps);
          ends_ancestry = λ k v seat open'. let e = judged_ancestry false r' k v open' in grind (arith, common_steps);
          failed_more = λ v over free. let a = failed_now r' v in let c = cov (g.viewed x) in let d = cov v in let l = ok.sound.floor_finalized in grind (arith, common_steps);
          failed_only = λ v q.
              let m = failing_says v q in
              let same : g.viewed x ≡ v = eqb-true (g.viewed x) v m.0 in
              let free : bare L v s ≡ true = ap (λ w. bare L w s) (sym same) ∙ m.1 in
              let c = cov v in
              (grind (arith, common_steps), (let a = failed_now r' v in let l = ok.sound.floor_finalized in let e = m.0 in grind (arith, common_steps)));
        }

    pub tells_verdict : (b : Bool) → Recorded sort L (verdict b x ∷ h) t → t ≡ certified L b x s → Tells L s t (certified_effects L b x s)
    tells_verdict true r' is = tells_passed r' is
    tells_verdict false r' is = tells_failed r' is

  failed_list : (v : ℕ) (vs : List ℕ) → (failed_fetched v (map failed_fetch vs) ≡ among v vs) × (list_any (fetches v) (map failed_fetch vs) ≡ among v vs)
  failed_list v [] = (refl, refl)
  failed_list v (u ∷ vs) = let i = failed_list v vs in (grind (arith, common_steps), grind (arith, common_steps))

  failed_ends : (o : Open) (vs : List ℕ) → list_any (ends o) (map failed_fetch vs) ≡ false
  failed_ends o [] = refl
  failed_ends o (u ∷ vs) = failed_ends o vs

  among_filter : (p : ℕ → Bool) (v : ℕ) (vs : List ℕ) → among v (filter p vs) ≡ (among v vs && p v)
  among_filter p v [] = refl
  among_filter p v (u ∷ vs) =
      let i = among_filter p v vs in
      elim (cases_eq u v) [ inl e ↦ (let w = ap p e in let y = eq-eqb u v e in grind (arith, common_steps)) | inr d ↦ (let y = ne_eqb u v d in grind (arith, common_steps)) ]

  failed_marked : (v : ℕ) → among v (failed_bare L s) ≡ (has_failed v s && bare L v s)
  unfolding failed_bare
  failed_marked v = among_filter (is_bare L s) v (map mark_view s.failed) ∙ (let m = sym (gaps_member v (map mark_view s.failed)) ∙ failed_member v s.failed in grind (arith, common_steps))

  same_answer : (k : Ask) (v : ℕ) → settled L k v (replayed L s) ≡ settled L k v s
  unfolding planned settled
  same_answer ask.Nullification v = refl
  same_answer ask.Notarization v = refl

  module _ (t : Values R g) (ok' : Lawful L t) where
    pub tells_marker : t ≡ replayed L s → Tells L s t (replayed_effects L s)
    unfolding planned
    tells_marker is =
        let ps = planned_effects L s.current (ended L s) in
        let vs = failed_bare L s in
        let off : t.replaying ≡ false = ap (λ w. w.replaying) is in
        let floor : t.floor ≡ s.floor = ap (λ w. w.floor) is in
        let free : (v : ℕ) → bare L v t ≡ bare L v s = λ v. ap (bare L v) is in
        let marks : (v : ℕ) → has_failed v t ≡ has_failed v s = λ v. ap (has_failed v) is in
        let answers : (k : Ask) (v : ℕ) → settled L k v t ≡ settled L k v s = λ k v. ap (settled L k v) is ∙ same_answer k v in
        let nothing : (o : Open) → list_any (ends o) (replayed_effects L s) ≡ false = λ o. list_any-append (ends o) ps (map failed_fetch vs) ∙ (let p = plan_ends L s.current (ended L s) o in let q = failed_ends o vs in grind (arith, common_steps)) in
        let fails : (v : ℕ) → failed_fetched v (replayed_effects L s) ≡ (has_failed v s && bare L v s) = λ v. list_any-append (fetches_failed v) ps (map failed_fetch vs) ∙ (let p = plan_failed L s.current (ended L s) v in let q = failed_list v vs in let w = failed_marked v in grind (arith, common_steps)) in
        record {
          floor = omega (arith, floor);
          low = ok'.sound.floor_finalized;
          replay = λ q. absurd (both_ways _ off q);
          quiet = λ v q. absurd (both_ways _ off q);
          ends_background = λ v open'. nothing (opened v Background None) ∙ (let e = free v in grind (arith, common_steps));
          ends_ancestry = λ k v seat open'. nothing (opened v (Ancestry k) seat) ∙ sym (answers k v ∙ open');
          failed_more = λ v over open'. let a = marks v in let b = fails v in let c = free v in grind (arith, common_steps);
          failed_only = λ v q. let a = marks v in let b = fails v in let c = free v in (grind (arith, common_steps), grind (arith, common_steps));
        }
