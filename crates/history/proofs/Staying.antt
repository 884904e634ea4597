-- What is settled and what is served stays so.
use Rattle.std.proofs.Common.{◌≡◌, ℕ, ◌<◌, true, false, List, [], ◌∷◌, ◌++◌, is_some, None, refl, arith}
use Rattle.std.proofs.lemmas.Grind.{common_steps}
use Rattle.effects.specs.declared.effect.Kind.{Kind as Ask}
use Rattle.effects.specs.declared.effect.Kind.TheVariants as ask
use Rattle.record.specs.declared.kind.Kind.{Kind}
use Rattle.terms.proofs.Laws.{own_end}
use Rattle.history.specs.Calls.{Call, evidence, verdict, marker, request, some, highest, passed, last_finalization, last_passed, highest_cover, settles, serves}
use Rattle.history.specs.Promises.{takes_back}
use Rattle.history.proofs.Counted.{finalized_low}

module _ {R : Type 0} (viewed : R → ℕ) (sort : R → Kind) (L : ℕ) (positive : 0 < L) where
  settles_more : (k : Ask) (v : ℕ) (c : Call R) (h : List (Call R)) → settles viewed sort L k v h ≡ true → settles viewed sort L k v (c ∷ h) ≡ true
  unfolding some highest
  settles_more ask.Nullification v c h t = grind (arith, common_steps)
  settles_more ask.Notarization v c h t = grind (arith, common_steps)

  pub settles_stays : (k : Ask) (v : ℕ) (later before : List (Call R)) → settles viewed sort L k v before ≡ true → settles viewed sort L k v (later ++ before) ≡ true
  settles_stays k v [] before t = t
  settles_stays k v (c ∷ later) before t = settles_more k v c (later ++ before) (settles_stays k v later before t)

  none_passed : (v : ℕ) (h : List (Call R)) → passed viewed sort v h ≡ false → last_passed viewed sort v h ≡ None
  unfolding some last_passed
  none_passed v [] f = refl
  none_passed v (evidence x ∷ h) f = none_passed v h f
  none_passed v (verdict b x ∷ h) f = let i = none_passed v h in grind (arith, common_steps)
  none_passed v (marker ∷ h) f = none_passed v h f
  none_passed v (request w k a ∷ h) f = none_passed v h f

  serves_more : (v : ℕ) (c : Call R) (h : List (Call R)) → takes_back viewed sort (c ∷ []) h ≡ false → is_some (serves viewed sort L v h) ≡ true → is_some (serves viewed sort L v (c ∷ h)) ≡ true
  unfolding takes_back serves some highest last_finalization last_passed highest_cover
  serves_more v (evidence x) h q t = let low = finalized_low viewed sort h in let o = own_end L positive v in grind (arith, common_steps)
  serves_more v (verdict true x) h q t = let low = finalized_low viewed sort h in grind (arith, common_steps)
  serves_more v (verdict false x) h q t = let n = none_passed (viewed x) h in grind (arith, common_steps)
  serves_more v marker h q t = grind (arith, common_steps)
  serves_more v (request w k a) h q t = grind (arith, common_steps)

  pub serves_stays : (v : ℕ) (later before : List (Call R)) → takes_back viewed sort later before ≡ false → is_some (serves viewed sort L v before) ≡ true → is_some (serves viewed sort L v (later ++ before)) ≡ true
  unfolding takes_back
  serves_stays v [] before q t = t
  serves_stays v (c ∷ later) before q t = serves_more v c (later ++ before) (grind (arith, common_steps)) (serves_stays v later before (grind (arith, common_steps)) t)
