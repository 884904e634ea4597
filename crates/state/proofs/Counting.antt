-- The gaps that would stand after evidence, told before it is recorded.
use Rattle.std.proofs.Common.{◌≡◌, ℕ, ◌+◌, ◌<◌, ◌≤◌, max, Bool, true, false, cond, ltb, length, sym, refl, ap, ◌∙◌, arith, rules}
use Rattle.std.proofs.lemmas.Grind.{common_steps}
use Rattle.cover.specs.Covers.{covered}
use Rattle.planning.specs.Gaps.{gaps}
use Rattle.planning.proofs.Gaps.{same_gaps, no_gaps}
use Rattle.record.specs.declared.kind.Kind.{Kind}
use Rattle.record.specs.declared.kind.Kind.TheVariants.{Notarization, Nullification, Finalization}
use Rattle.table.proofs.Laws.{one_more}
use Rattle.terms.proofs.Laws.{to_the_end}
use Rattle.views.specs.declared.Viewable as viewable
use Rattle.store.specs.Values.{Values, is_covered, gaps_of}
use Rattle.store.specs.Steps.{first_kept, nullification_counts, nullified, notarized, finalized_at, pruned, raised, finalization_taken, before_planning}
use Rattle.state.specs.Answers.{floor_after}
use Rattle.state.proofs.Covers.{stays_covered}

-- a test that is true whenever another is, both ways
alike : (a b : Bool) → (a ≡ true → b ≡ true) → (b ≡ true → a ≡ true) → a ≡ b
alike true b to back = sym (to refl)
alike false true to back = back refl
alike false false to back = refl

module _ {R : Type 0} {g : viewable.Ghosts R} (L : ℕ) (positive : 0 < L) where
  -- a nullification covers nothing below itself
  covers_alike : (b : Bool) (h : R) (s : Values R g) (w : ℕ) → w < g.viewed h → covered g.viewed L w (cond b (first_kept g.viewed h s.nullifications) s.nullifications) ≡ is_covered L s w
  covers_alike b h s w below =
      let e = one_more g.viewed h s.nullifications in
      alike _ _
      (stays_covered g.viewed L w _ s.nullifications (λ u c t. let k = e u in let m = (to_the_end L positive u w).0 c in grind (arith, common_steps)))
      (stays_covered g.viewed L w s.nullifications _ (λ u c t. let k = e u in grind (arith, common_steps)))

  pub gaps_after : (k : Kind) (h : R) (s : Values R g) → s.current < (g.viewed h) → length (gaps_of L (before_planning L k h s)) ≡ length (gaps L (is_covered L s) (floor_after L k (g.viewed h) s + 1) (g.viewed h))
  unfolding before_planning nullified notarized finalization_taken finalized_at pruned raised
  gaps_after Nullification h s above =
      let top : max s.current (g.viewed h) ≡ g.viewed h = omega arith in
      rw top (ap length (same_gaps L positive (is_covered L s) _ (s.floor + 1) (g.viewed h) (λ w low high. covers_alike (nullification_counts L (g.viewed h) s) h s w high)))
  gaps_after Notarization h s above = ap (λ n. length (gaps L (is_covered L s) (s.floor + 1) n)) (omega arith)
  gaps_after Finalization h s above =
      let floor = cond (ltb s.floor (g.viewed h)) (g.viewed h) s.floor in
      let high : (g.viewed h) ≤ floor = search rules in
      no_gaps L positive _ (floor + 1) (max s.current (g.viewed h)) (omega arith) ∙ sym (no_gaps L positive (is_covered L s) (max s.floor (g.viewed h) + 1) (g.viewed h) (omega arith))
