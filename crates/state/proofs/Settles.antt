-- What is settled stays settled, and what is dropped is finalized.
use Rattle.std.proofs.Common.{◌≡◌, ℕ, ◌<◌, ◌≤◌, true, cond, ltb, Some, refl, inl, arith, rules}
use Rattle.effects.specs.declared.effect.Kind.{Kind as Ask}
use Rattle.effects.specs.declared.effect.Kind.TheVariants as ask
use Rattle.record.specs.declared.kind.Kind.{Kind}
use Rattle.record.specs.declared.kind.Kind.TheVariants.{Notarization, Nullification, Finalization}
use Rattle.std.proofs.lemmas.Grind.{common_steps}
use Rattle.table.proofs.Laws.{one_more, one_less, only_kept}
use Rattle.terms.specs.Terms.{end}
use Rattle.views.specs.declared.Viewable as viewable
use Rattle.store.specs.Values.{Values, mark, mark_view, view_of, finalized}
use Rattle.store.specs.Steps.{nullified, notarized, finalized_at, pruned, raised, finalization_taken, before_planning, planned, judged, certified_at, passing, passed, failed_at, failing, ended}
use Rattle.lawful.specs.Lawful.{Sound}
use Rattle.state.specs.Settled.{answered, settled}
use Rattle.state.specs.Laws.{SettledOnlyGrows, DroppedOnlyWhenFinalized, NoNullificationSettled}
use Rattle.state.proofs.Covers.{stays_covered}
use Rattle.state.proofs.Steps.{covers_past}

module _ {R : Type 0} {g : viewable.Ghosts R} (L : ℕ) (s t : Values R g) (higher : finalized s ≤ finalized t) where
  -- it is enough that what is answered above the finalized view stays answered
  pub grows_if : ((k : Ask) (v : ℕ) → finalized t < v → answered L k v s ≡ true → answered L k v t ≡ true) → SettledOnlyGrows L s t
  unfolding settled
  grows_if stays k v is = let a = stays k v in search rules

module _ {R : Type 0} {g : viewable.Ghosts R} (L : ℕ) (positive : 0 < L) (s : Values R g) (ok : Sound L s) where
  pub grows_evidence : (k : Kind) (h : R) → SettledOnlyGrows L s (planned L (before_planning L k h s))
  unfolding planned before_planning nullified notarized finalization_taken finalized_at pruned raised
  grows_evidence Nullification h = grows_if L s _ (omega arith) (elim [
    | ask.Nullification ↦ λ v past. stays_covered g.viewed L v s.nullifications _ (λ u c t. let e = one_more g.viewed h s.nullifications u in grind (arith, common_steps))
    | ask.Notarization ↦ λ v past a. a
  ])
  grows_evidence Notarization h = grows_if L s _ (omega arith) (elim [
    | ask.Nullification ↦ λ v past a. a
    | ask.Notarization ↦ λ v past a. let e = one_more mark_view (mark (g.viewed h)) s.pending v in grind (arith, common_steps)
  ])
  grows_evidence Finalization h =
      let f = view_of g.viewed (cond (ltb (finalized s) (g.viewed h)) (Some h) s.finalization) in
      let higher : finalized s ≤ f = search rules in
      grows_if L s _ higher (elim [
        | ask.Nullification ↦ λ v past. stays_covered g.viewed L v s.nullifications _ (λ u c t. let e = only_kept g.viewed (λ w. ltb f (end L w)) s.nullifications u in let k = covers_past L positive f s u v past c in grind (arith, common_steps))
        | ask.Notarization ↦ λ v past a.
            let p = only_kept mark_view (λ w. ltb f w) s.pending v in
            let d = only_kept g.viewed (λ w. ltb f w) s.certified v in
            let n = only_kept mark_view (λ w. ltb f w) s.failed v in
            grind (arith, common_steps)
      ])

  pub grows_passed : (h : R) → SettledOnlyGrows L s (planned L (passed L h s))
  unfolding planned passing certified_at raised
  grows_passed h = grows_if L s _ (omega arith) (elim [
    | ask.Nullification ↦ λ v past a. a
    | ask.Notarization ↦ λ v past a.
        let p = one_less mark_view (g.viewed h) s.pending v in
        let d = one_more g.viewed h s.certified v in
        grind (arith, common_steps)
  ])

  pub grows_failed : (u : ℕ) → SettledOnlyGrows L s (failing L u (judged L u s))
  unfolding failing failed_at
  grows_failed u = grows_if L s _ (omega arith) (elim [
    | ask.Nullification ↦ λ v past a. a
    | ask.Notarization ↦ λ v past a.
        let p = one_less mark_view u s.pending v in
        let d = one_less g.viewed u s.certified v in
        let n = one_more mark_view (mark u) s.failed v in
        grind (arith, common_steps)
  ])

  pub grows_ended : SettledOnlyGrows L s (planned L (ended L s))
  unfolding planned
  grows_ended = grows_if L s _ (omega arith) (search rules)

  pub dropped_evidence : (k : Kind) (h : R) → DroppedOnlyWhenFinalized L s (planned L (before_planning L k h s))
  unfolding planned before_planning nullified notarized finalization_taken finalized_at pruned raised
  dropped_evidence Nullification h u x found = inl (let e = one_more g.viewed h s.nullifications u in grind (arith, common_steps))
  dropped_evidence Notarization h u x found = inl found
  dropped_evidence Finalization h u x found =
      let f = view_of g.viewed (cond (ltb (finalized s) (g.viewed h)) (Some h) s.finalization) in
      let e = only_kept g.viewed (λ w. ltb f (end L w)) s.nullifications u in
      grind (arith, common_steps)

  pub dropped_passed : (h : R) → DroppedOnlyWhenFinalized L s (planned L (passed L h s))
  unfolding planned passing certified_at raised
  dropped_passed h u x found = inl found

  pub dropped_failed : (v : ℕ) → DroppedOnlyWhenFinalized L s (failing L v (judged L v s))
  unfolding failing failed_at
  dropped_failed v u x found = inl found

  pub dropped_ended : DroppedOnlyWhenFinalized L s (planned L (ended L s))
  unfolding planned
  dropped_ended u x found = inl found

  pub no_nullification_settled : (h : R) → NoNullificationSettled L s (planned L (before_planning L Notarization h s))
  unfolding planned before_planning notarized settled
  no_nullification_settled h v = refl
