-- One change of a store after another, and the effects of both.
use Rattle.std.proofs.Common.{ℕ, ◌+◌, ◌≡◌, List, ◌++◌, length, sym, ap, ◌∙◌, subst, arith, rules}
use Rattle.std.proofs.lemmas.List.{length-append}
use Rattle.effects.specs.declared.effect.Effect.{Effect}
use Rattle.effects.specs.declared.listed.Effects.{Effects}
use Rattle.effects.specs.Lists.{Added}
use Rattle.effects.specs.Lists as list
use Rattle.effects.proofs.Adding.{added_both}
use Rattle.terms.specs.Terms.{views}
use Rattle.views.specs.declared.Viewable as viewable
use Rattle.store.specs.declared.store.Store.{Store}
use Rattle.store.specs.Values.{Values, values}
use Rattle.store.specs.Ready.{length_of, Kept, Low, Turned, HasRoom}

-- some effects came, and others for which there was room left
pub added_then : (es fs : List Effect) (n : ℕ) (x y z : Effects) → Added es x y → HasRoom (length es + n) x → (HasRoom n y → Added fs y z) → Added (es ++ fs) x z
added_then es fs n x y z p free rest = added_both es fs x y z p (rest (omega (arith, free, p.room, ap length p.stand, length-append (list.entries x) es)))

module _ {R : Type 0} {g : viewable.Ghosts R} (a b : Store R g) (s : Values R g) (p : Turned a b s) where
  -- what is told of the values after a turn
  pub told_next : {X : Type 0} (f : ℕ → Values R g → X) → f (length_of b) (values b) ≡ f (length_of a) s
  told_next f = ap (λ n. f n (values b)) (ap views p.kept.length) ∙ ap (f (length_of a)) p.is

  pub low_next : Low s → Low (values b)
  low_next low = subst Low (sym p.is) low

  -- one turn after another
  pub turned_next : (c : Store R g) (f : ℕ → Values R g → Values R g) → Turned b c (f (length_of b) (values b)) → Turned a c (f (length_of a) s)
  turned_next c f q =
      let k : Kept a c = search rules in
      record { is = q.is ∙ told_next f; kept = k }

  -- some effects came in a turn, and others after it
  pub added_next : (es : List Effect) (fs : ℕ → Values R g → List Effect) (x y z : Effects) → Added es x y → HasRoom (length es + length (fs (length_of a) s)) x → (HasRoom (length (fs (length_of b) (values b))) y → Added (fs (length_of b) (values b)) y z) → Added (es ++ fs (length_of a) s) x z
  added_next es fs x y z one free rest = subst (λ l. Added (es ++ l) x z) (told_next fs) (added_then es _ _ x y z one (omega (arith, free, ap length (told_next fs))) rest)
