-- Two lists of calls that say the same of all that is not finalized.
use Rattle.std.proofs.Common.{◌≡◌, ℕ, ◌<◌, max, false, ◌||◌, List, ◌∷◌, sym, refl, ap, ◌∙◌, inl, inr, arith}
use Rattle.std.proofs.lemmas.Bool.{cases_lt}
use Rattle.std.proofs.lemmas.Grind.{common_steps}
use Rattle.effects.specs.declared.effect.Kind.{Kind as Ask}
use Rattle.effects.specs.declared.effect.Kind.TheVariants as ask
use Rattle.record.specs.declared.kind.Kind.{Kind}
use Rattle.history.specs.Calls.{Call, some, highest, is_marker, is_open_request, marked, requested, first_seat, target, finalizes, raises, sees, finalized, floor, current, notarized, judged, passed, failed, covered, settles}

module _ {R : Type 0} (viewed : R → ℕ) (sort : R → Kind) (L : ℕ) where
  pub record Same (h i : List (Call R)) : Type 0 where
    pub top : finalized viewed sort i ≡ finalized viewed sort h
    pub floor : floor viewed sort i ≡ floor viewed sort h
    pub current : current viewed sort i ≡ current viewed sort h
    pub marked : marked i ≡ marked h
    pub covered : (v : ℕ) → finalized viewed sort h < v → covered viewed sort L v i ≡ covered viewed sort L v h
    pub notarized : (v : ℕ) → finalized viewed sort h < v → notarized viewed sort v i ≡ notarized viewed sort v h
    pub judged : (v : ℕ) → finalized viewed sort h < v → judged viewed sort v i ≡ judged viewed sort v h
    pub passed : (v : ℕ) → finalized viewed sort h < v → passed viewed sort v i ≡ passed viewed sort v h
    pub failed : (v : ℕ) → finalized viewed sort h < v → failed viewed sort v i ≡ failed viewed sort v h
    pub requested : (k : Ask) (v : ℕ) → settles viewed sort L k v h ≡ false → requested k v i ≡ requested k v h
    pub open_to_all : (k : Ask) (v : ℕ) → settles viewed sort L k v h ≡ false → some (is_open_request k v) i ≡ some (is_open_request k v) h
    pub target : (k : Ask) (v : ℕ) → settles viewed sort L k v h ≡ false → target k v i ≡ target k v h

  pub same_refl : (h : List (Call R)) → Same h h
  same_refl h = record {
    top = refl;
    floor = refl;
    current = refl;
    marked = refl;
    covered = λ v _. refl;
    notarized = λ v _. refl;
    judged = λ v _. refl;
    passed = λ v _. refl;
    failed = λ v _. refl;
    requested = λ k v _. refl;
    open_to_all = λ k v _. refl;
    target = λ k v _. refl;
  }

  -- then they settle the same
  pub same_settles : (h i : List (Call R)) → Same h i → (k : Ask) (v : ℕ) → settles viewed sort L k v i ≡ settles viewed sort L k v h
  same_settles h i s ask.Nullification v = elim (cases_lt (finalized viewed sort h) v) [
    | inl past ↦ let c = s.covered v past in let f = s.top in grind (arith, common_steps)
    | inr low ↦ let f = s.top in grind (arith, common_steps)
  ]
  same_settles h i s ask.Notarization v = elim (cases_lt (finalized viewed sort h) v) [
    | inl past ↦ let a = s.notarized v past in let b = s.judged v past in let f = s.top in grind (arith, common_steps)
    | inr low ↦ let f = s.top in grind (arith, common_steps)
  ]

  pub same_sym : (h i : List (Call R)) → Same h i → Same i h
  same_sym h i s = record {
    top = sym s.top;
    floor = sym s.floor;
    current = sym s.current;
    marked = sym s.marked;
    covered = λ v p. sym (s.covered v (omega (arith, p, s.top)));
    notarized = λ v p. sym (s.notarized v (omega (arith, p, s.top)));
    judged = λ v p. sym (s.judged v (omega (arith, p, s.top)));
    passed = λ v p. sym (s.passed v (omega (arith, p, s.top)));
    failed = λ v p. sym (s.failed v (omega (arith, p, s.top)));
    requested = λ k v u. sym (s.requested k v (sym (same_settles h i s k v) ∙ u));
    open_to_all = λ k v u. sym (s.open_to_all k v (sym (same_settles h i s k v) ∙ u));
    target = λ k v u. sym (s.target k v (sym (same_settles h i s k v) ∙ u));
  }

  pub same_trans : (h i j : List (Call R)) → Same h i → Same i j → Same h j
  same_trans h i j s t = record {
    top = t.top ∙ s.top;
    floor = t.floor ∙ s.floor;
    current = t.current ∙ s.current;
    marked = t.marked ∙ s.marked;
    covered = λ v p. t.covered v (omega (arith, p, s.top)) ∙ s.covered v p;
    notarized = λ v p. t.notarized v (omega (arith, p, s.top)) ∙ s.notarized v p;
    judged = λ v p. t.judged v (omega (arith, p, s.top)) ∙ s.judged v p;
    passed = λ v p. t.passed v (omega (arith, p, s.top)) ∙ s.passed v p;
    failed = λ v p. t.failed v (omega (arith, p, s.top)) ∙ s.failed v p;
    requested = λ k v u. t.requested k v (same_settles h i s k v ∙ u) ∙ s.requested k v u;
    open_to_all = λ k v u. t.open_to_all k v (same_settles h i s k v ∙ u) ∙ s.open_to_all k v u;
    target = λ k v u. t.target k v (same_settles h i s k v ∙ u) ∙ s.target k v u;
  }

  -- what more calls settle, the fewer did not undo
  fewer_settled : (k : Ask) (v : ℕ) (c : Call R) (h : List (Call R)) → settles viewed sort L k v (c ∷ h) ≡ false → settles viewed sort L k v h ≡ false
  unfolding some highest
  fewer_settled ask.Nullification v c h u = grind (arith, common_steps)
  fewer_settled ask.Notarization v c h u = grind (arith, common_steps)

  -- with one more call they still do
  pub same_more : (c : Call R) (h i : List (Call R)) → Same h i → Same (c ∷ h) (c ∷ i)
  unfolding some highest first_seat
  same_more c h i s =
      let past : (v : ℕ) → finalized viewed sort (c ∷ h) < v → finalized viewed sort h < v = λ v p. omega (arith, p) in
      record {
        top = ap (λ n. max n (finalizes viewed sort c)) s.top;
        floor = ap (λ n. max n (raises viewed sort c)) s.floor;
        current = ap (λ n. max n (sees viewed sort c)) s.current;
        marked = ap (λ b. is_marker c || b) s.marked;
        covered = λ v p. let a = s.covered v (past v p) in grind (arith, common_steps);
        notarized = λ v p. let a = s.notarized v (past v p) in grind (arith, common_steps);
        judged = λ v p. let a = s.judged v (past v p) in grind (arith, common_steps);
        passed = λ v p. let a = s.passed v (past v p) in grind (arith, common_steps);
        failed = λ v p. let a = s.failed v (past v p) in grind (arith, common_steps);
        requested = λ k v u. let a = s.requested k v (fewer_settled k v c h u) in grind (arith, common_steps);
        open_to_all = λ k v u. let a = s.open_to_all k v (fewer_settled k v c h u) in grind (arith, common_steps);
        target = λ k v u. let w = fewer_settled k v c h u in let a = s.requested k v w in let b = s.open_to_all k v w in let d = s.target k v w in grind (arith, common_steps);
      }
