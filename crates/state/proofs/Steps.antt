-- How each call moves floor, cursor and covers.
use Rattle.std.proofs.Common.{◌≡◌, ℕ, ◌<◌, ◌≤◌, true, false, cond, ltb, ◌⊎◌, Some, sym, refl, inl, arith, rules}
use Rattle.std.proofs.lemmas.Bool.{lt-ltb}
use Rattle.planning.specs.Gaps.{pulled}
use Rattle.record.specs.declared.kind.Kind.{Kind}
use Rattle.record.specs.declared.kind.Kind.TheVariants.{Notarization, Nullification, Finalization}
use Rattle.std.proofs.lemmas.Grind.{common_steps}
use Rattle.table.proofs.Laws.{one_more, only_kept}
use Rattle.terms.specs.Terms.{end}
use Rattle.terms.proofs.Laws.{to_the_end}
use Rattle.views.specs.declared.Viewable as viewable
use Rattle.store.specs.Values.{Values, view_of, finalized}
use Rattle.store.specs.Steps.{nullified, notarized, finalized_at, pruned, raised, finalization_taken, before_planning, certified_at, passing, passed, ended}
use Rattle.state.proofs.Covers.{stays_covered}
use Rattle.state.proofs.Moves.{Step}

-- a floor that rises only to what is above it
module _ (L F cursor v : ℕ) where
  pub raised_up : F ≤ cond (ltb F v) v F
  raised_up = search rules

  pub raised_moved : ((cond (ltb F v) v F ≡ F) × (cond (ltb F v) (pulled L cursor v) cursor ≡ cursor)) ⊎ ((F < cond (ltb F v) v F) × (cond (ltb F v) (pulled L cursor v) cursor ≡ pulled L cursor (cond (ltb F v) v F)))
  raised_moved = search rules

  -- a cursor at 0 stays there
  pub raised_first : cursor ≡ 0 → cond (ltb F v) (pulled L cursor v) cursor ≡ 0
  unfolding pulled
  raised_first z = search rules

module _ {R : Type 0} {g : viewable.Ghosts R} (L : ℕ) (positive : 0 < L) where
  -- what covers a view above the finalized one is kept
  pub covers_past : (f : ℕ) (s : Values R g) (u v : ℕ) → f < v → Rattle.terms.specs.Terms.covering L u v ≡ true → ltb f (end L u) ≡ true
  covers_past f s u v past c = lt-ltb f (end L u) (omega (arith, ((to_the_end L positive u v).0 c).1))

  pub step_evidence : (k : Kind) (h : R) (s : Values R g) → finalized (before_planning L k h s) ≤ (before_planning L k h s).floor → Step L s (before_planning L k h s)
  unfolding before_planning nullified notarized finalization_taken finalized_at pruned raised
  step_evidence Nullification h s low = record {
    replay = refl;
    floor = omega arith;
    moved = record { grown = omega arith; raised = inl (refl, refl) };
    covers = λ v above. stays_covered g.viewed L v s.nullifications _ (λ u c t. let e = one_more g.viewed h s.nullifications u in grind (arith, common_steps));
    first = λ on z. z;
  }
  step_evidence Notarization h s low = record {
    replay = refl;
    floor = omega arith;
    moved = record { grown = omega arith; raised = inl (refl, refl) };
    covers = λ v above c. c;
    first = λ on z. z;
  }
  step_evidence Finalization h s low =
      let f = view_of g.viewed (cond (ltb (finalized s) (g.viewed h)) (Some h) s.finalization) in
      record {
        replay = refl;
        floor = raised_up L s.floor s.cursor (g.viewed h);
        moved = record { grown = omega arith; raised = raised_moved L s.floor s.cursor (g.viewed h) };
        covers = λ v above. stays_covered g.viewed L v s.nullifications _ (λ u c t. let e = only_kept g.viewed (λ w. ltb f (end L w)) s.nullifications u in let k = covers_past f s u v (omega (arith, low, above)) c in grind (arith, common_steps));
        first = λ on z. raised_first L s.floor s.cursor (g.viewed h) z;
      }

  pub step_passed : (h : R) (s : Values R g) → Step L s (passed L h s)
  unfolding passing certified_at raised
  step_passed h s = record {
    replay = refl;
    floor = raised_up L s.floor s.cursor (g.viewed h);
    moved = record { grown = omega arith; raised = raised_moved L s.floor s.cursor (g.viewed h) };
    covers = λ v above c. c;
    first = λ on z. raised_first L s.floor s.cursor (g.viewed h) z;
  }

  -- the marker, where replay was over
  pub step_ended : (s : Values R g) → s.replaying ≡ false → Step L s (ended L s)
  step_ended s over = record {
    replay = sym over;
    floor = omega arith;
    moved = record { grown = omega arith; raised = inl (refl, refl) };
    covers = λ v above c. c;
    first = λ on z. z;
  }
