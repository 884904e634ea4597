-- Which gaps a list of effects fetches.
use Rattle.std.proofs.Common.{◌≡◌, ℕ, Bool, true, false, ◌||◌, eqb, List, [], ◌∷◌, ◌++◌, map, sym, refl, ap, ◌∙◌, rules}
use Rattle.effects.specs.declared.effect.Effect.{Effect}
use Rattle.planning.specs.Gaps.{among, missing}
use Rattle.record.specs.declared.kind.Kind.{Kind}
use Rattle.record.specs.declared.kind.Kind.TheVariants.{Notarization, Nullification, Finalization}
use Rattle.views.specs.declared.Viewable as viewable
use Rattle.store.specs.Values.{Values, unplanned}
use Rattle.store.specs.Steps.{failed_fetch, nullified_effects, notarized_effects, finalization_effects, raised_effects, taken_effects, planned_effects, failing_effects}
use Rattle.state.specs.Laws.{fetches_gap, fetched}

or_assoc : (x y z : Bool) → ((x || y) || z) ≡ (x || (y || z))
or_assoc true y z = refl
or_assoc false y z = refl

module _ (v : ℕ) where
  pub fetched_append : (xs ys : List Effect) → fetched v (xs ++ ys) ≡ (fetched v xs || fetched v ys)
  fetched_append [] ys = refl
  fetched_append (x ∷ xs) ys = ap (λ b. fetches_gap v x || b) (fetched_append xs ys) ∙ sym (or_assoc (fetches_gap v x) (fetched v xs) (fetched v ys))

  pub fetched_after : (xs ys : List Effect) → fetched v xs ≡ false → fetched v (xs ++ ys) ≡ fetched v ys
  fetched_after xs ys none = fetched_append xs ys ∙ ap (λ b. b || fetched v ys) none

  pub fetched_missing : (cause : ℕ) (gs : List ℕ) → fetched v (map (missing cause) gs) ≡ among v gs
  fetched_missing cause [] = refl
  fetched_missing cause (x ∷ xs) = ap (λ b. eqb x v || b) (fetched_missing cause xs)

  pub none_failed : (vs : List ℕ) → fetched v (map failed_fetch vs) ≡ false
  none_failed [] = refl
  none_failed (x ∷ xs) = none_failed xs

  module _ {R : Type 0} {g : viewable.Ghosts R} (L : ℕ) where
    pub taken_none : (k : Kind) (h : R) (s : Values R g) → fetched v (taken_effects L k h s) ≡ false
    unfolding nullified_effects notarized_effects finalization_effects raised_effects
    taken_none Nullification h s = search rules
    taken_none Notarization h s = search rules
    taken_none Finalization h s = search rules

    pub raised_none : (u : ℕ) (s : Values R g) → fetched v (raised_effects L u s) ≡ false
    unfolding raised_effects
    raised_none u s = search rules

    pub failing_none : (u : ℕ) (s : Values R g) → fetched v (failing_effects L u s) ≡ false
    unfolding failing_effects
    failing_none u s = search rules

    pub planned_fetches : (cause : ℕ) (s : Values R g) → s.replaying ≡ false → fetched v (planned_effects L cause s) ≡ among v (unplanned L s)
    unfolding planned_effects
    planned_fetches cause s over = rw over (fetched_missing cause (unplanned L s))
