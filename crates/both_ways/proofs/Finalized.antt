-- A finalization that takes its place before the calls that wait, of which some are dropped.
use Rattle.std.proofs.Common.{◌≡◌, ℕ, ◌<◌, ◌≤◌, max, Bool, false, not, ◌&&◌, ◌||◌, eqb, List, ◌∷◌, ◌++◌, ap, arith}
use Rattle.std.proofs.lemmas.Grind.{common_steps}
use Rattle.effects.specs.declared.effect.Kind.{Kind as Ask}
use Rattle.effects.specs.declared.effect.Kind.TheVariants as ask
use Rattle.record.specs.declared.kind.Kind.{Kind}
use Rattle.record.specs.declared.kind.Kind.TheVariants.{Finalization}
use Rattle.state.specs.Answers.{is_notarization}
use Rattle.terms.specs.Terms.{covering}
use Rattle.history.specs.Calls.{Call, evidence, is_nullification, is_finalization, some, highest, by_evidence, by_verdict, is_marker, is_request, is_open_request, marked, requested, first_seat, finalizes, raises, sees, finalized, notarized, judged, passed, failed, covered, settles}
use Rattle.both_ways.proofs.Absorbed.{some_append, highest_append, first_seat_append, no_seat}
use Rattle.both_ways.proofs.Same.{Same}

module _ {R : Type 0} (viewed : R → ℕ) (sort : R → Kind) (L : ℕ) where
  -- fewer calls that say the same of what lies above a view
  pub record Fewer (w : ℕ) (h i : List (Call R)) : Type 0 where
    pub top : (highest (finalizes viewed sort) i ≤ highest (finalizes viewed sort) h) × (highest (finalizes viewed sort) h ≤ max (highest (finalizes viewed sort) i) w)
    pub floor : (highest (raises viewed sort) i ≤ highest (raises viewed sort) h) × (highest (raises viewed sort) h ≤ max (highest (raises viewed sort) i) w)
    pub current : (highest (sees viewed sort) i ≤ highest (sees viewed sort) h) × (highest (sees viewed sort) h ≤ max (highest (sees viewed sort) i) w)
    pub marked : marked i ≡ marked h
    pub covered : (v : ℕ) → w < v → covered viewed sort L v i ≡ covered viewed sort L v h
    pub notarized : (v : ℕ) → w < v → notarized viewed sort v i ≡ notarized viewed sort v h
    pub judged : (v : ℕ) → w < v → judged viewed sort v i ≡ judged viewed sort v h
    pub passed : (v : ℕ) → w < v → passed viewed sort v i ≡ passed viewed sort v h
    pub failed : (v : ℕ) → w < v → failed viewed sort v i ≡ failed viewed sort v h
    pub requested : (k : Ask) (v : ℕ) → w < v → requested k v i ≡ requested k v h
    pub open_to_all : (k : Ask) (v : ℕ) → w < v → some (is_open_request k v) i ≡ some (is_open_request k v) h
    pub first_seat : (k : Ask) (v : ℕ) → w < v → first_seat k v i ≡ first_seat k v h

  unsettled_past : (k : Ask) (v : ℕ) (h : List (Call R)) → settles viewed sort L k v h ≡ false → finalized viewed sort h < v
  unsettled_past ask.Nullification v h u = grind (arith, common_steps)
  unsettled_past ask.Notarization v h u = grind (arith, common_steps)

  -- a finalization in their place
  pub finalized_first : (x : R) → sort x ≡ Finalization → (waiting left called : List (Call R)) → Fewer (viewed x) waiting left → Same viewed sort L (evidence x ∷ (waiting ++ called)) (left ++ evidence x ∷ called)
  unfolding some highest first_seat
  finalized_first x e waiting left called fewer =
      let m = ap is_nullification e in
      let n = ap is_notarization e in
      let f = ap is_finalization e in
      let all : (p : Call R → Bool) → some p (waiting ++ called) ≡ (some p waiting || some p called) = λ p. some_append p waiting called in
      let all' : (p : Call R → Bool) → some p (left ++ evidence x ∷ called) ≡ (some p left || (p (evidence x) || some p called)) = λ p. some_append p left (evidence x ∷ called) in
      let top : highest (finalizes viewed sort) (left ++ evidence x ∷ called) ≡ finalized viewed sort (evidence x ∷ (waiting ++ called)) =
      let a = highest_append (finalizes viewed sort) waiting called in let b = highest_append (finalizes viewed sort) left (evidence x ∷ called) in let c = fewer.top in grind (arith, common_steps) in
      let past : (v : ℕ) → finalized viewed sort (evidence x ∷ (waiting ++ called)) < v → viewed x < v = λ v p. grind (arith, common_steps) in
      let open_past : (k : Ask) (v : ℕ) → settles viewed sort L k v (evidence x ∷ (waiting ++ called)) ≡ false → viewed x < v = λ k v u. past v (unsettled_past k v (evidence x ∷ (waiting ++ called)) u) in
      record {
        top = top;
        floor = let a = highest_append (raises viewed sort) waiting called in let b = highest_append (raises viewed sort) left (evidence x ∷ called) in let c = fewer.floor in grind (arith, common_steps);
        current = let a = highest_append (sees viewed sort) waiting called in let b = highest_append (sees viewed sort) left (evidence x ∷ called) in let c = fewer.current in grind (arith, common_steps);
        marked = let a = all is_marker in let b = all' is_marker in let c = fewer.marked in grind (arith, common_steps);
        covered = λ v p. let q = by_evidence (λ z. is_nullification (sort z) && covering L (viewed z) v) in let a = all q in let b = all' q in let c = fewer.covered v (past v p) in grind (arith, common_steps);
        notarized = λ v p. let q = by_evidence (λ z. is_notarization (sort z) && eqb (viewed z) v) in let a = all q in let b = all' q in let c = fewer.notarized v (past v p) in grind (arith, common_steps);
        judged = λ v p. let q = by_verdict (λ d z. eqb (viewed z) v) in let a = all q in let b = all' q in let c = fewer.judged v (past v p) in grind (arith, common_steps);
        passed = λ v p. let q = by_verdict (λ d z. d && eqb (viewed z) v) in let a = all q in let b = all' q in let c = fewer.passed v (past v p) in grind (arith, common_steps);
        failed = λ v p. let q = by_verdict (λ d z. not d && eqb (viewed z) v) in let a = all q in let b = all' q in let c = fewer.failed v (past v p) in grind (arith, common_steps);
        requested = λ k v u. let a = all (is_request k v) in let b = all' (is_request k v) in let c = fewer.requested k v (open_past k v u) in grind (arith, common_steps);
        open_to_all = λ k v u. let a = all (is_open_request k v) in let b = all' (is_open_request k v) in let c = fewer.open_to_all k v (open_past k v u) in grind (arith, common_steps);
        target = λ k v u.
            let p = open_past k v u in
            let a = all (is_open_request k v) in
            let b = all' (is_open_request k v) in
            let c = fewer.open_to_all k v p in
            let d = first_seat_append k v waiting called in
            let e' = first_seat_append k v left (evidence x ∷ called) in
            let i = fewer.first_seat k v p in
            let s = all (is_request k v) in
            let n' = no_seat k v (waiting ++ called) in
            let n'' = no_seat k v called in
            grind (arith, common_steps);
      }
