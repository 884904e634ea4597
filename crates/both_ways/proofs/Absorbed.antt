-- Calls that add nothing to others.
use Rattle.std.proofs.Common.{◌≡◌, ℕ, ◌<◌, ◌≤◌, max, Bool, true, false, cond, not, ◌&&◌, ◌||◌, ◌⊎◌, eqb, List, [], ◌∷◌, ◌++◌, is_none, None, Option, refl, subst, inl, inr, arith}
use Rattle.std.proofs.lemmas.Bool.{both_ways, cases_Bool, and_parts, eqb-true}
use Rattle.std.proofs.lemmas.Grind.{common_steps}
use Rattle.board.specs.Asks.{same_kind}
use Rattle.effects.specs.declared.effect.Kind.{Kind as Ask}
use Rattle.record.specs.declared.kind.Kind.{Kind}
use Rattle.state.specs.Answers.{is_notarization}
use Rattle.terms.proofs.Laws.{to_the_end}
use Rattle.terms.specs.Terms.{end, covering}
use Rattle.history.specs.Calls.{Call, evidence, verdict, marker, request, is_nullification, some, highest, by_evidence, by_verdict, is_marker, is_request, is_open_request, requested, first_seat, finalizes, raises, sees, finalized, current, settles}
use Rattle.history.proofs.Counted.{finalized_low}
use Rattle.history.proofs.Uses.{same_ask}
use Rattle.both_ways.proofs.Same.{Same}

-- what calls say together
pub some_append : {R : Type 0} (p : Call R → Bool) (h i : List (Call R)) → some p (h ++ i) ≡ (some p h || some p i)
unfolding some
some_append p [] i = refl
some_append p (c ∷ h) i = let e = some_append p h i in grind (arith, common_steps)

pub highest_append : {R : Type 0} (f : Call R → ℕ) (h i : List (Call R)) → highest f (h ++ i) ≡ max (highest f h) (highest f i)
unfolding highest
highest_append f [] i = omega arith
highest_append f (c ∷ h) i = omega (arith, highest_append f h i)

-- where nothing was asked for no seat was named
pub no_seat : {R : Type 0} (k : Ask) (v : ℕ) (h : List (Call R)) → requested k v h ≡ false → first_seat k v h ≡ None
unfolding first_seat some
no_seat k v [] f = refl
no_seat k v (c ∷ h) f = grind (arith, common_steps)

pub first_seat_append : {R : Type 0} (k : Ask) (v : ℕ) (h i : List (Call R)) → first_seat k v (h ++ i) ≡ cond (requested k v i) (first_seat k v i) (first_seat k v h)
unfolding first_seat some
first_seat_append k v [] i = let n = no_seat k v i in grind (arith, common_steps)
first_seat_append k v (c ∷ h) i = let e = first_seat_append k v h i in let s = some_append (is_request k v) h i in grind (arith, common_steps)

module _ {R : Type 0} (viewed : R → ℕ) (sort : R → Kind) (L : ℕ) (positive : 0 < L) where
  pub finalized_seen : (h : List (Call R)) → finalized viewed sort h ≤ current viewed sort h
  unfolding highest
  finalized_seen [] = omega arith
  finalized_seen (evidence x ∷ h) = let i = finalized_seen h in grind (arith, common_steps)
  finalized_seen (verdict b x ∷ h) = omega (arith, finalized_seen h)
  finalized_seen (marker ∷ h) = omega (arith, finalized_seen h)
  finalized_seen (request w k a ∷ h) = omega (arith, finalized_seen h)

  -- what is finalized already
  pub low_evidence : (x : R) (h : List (Call R)) → viewed x ≤ finalized viewed sort h → (is_nullification (sort x) ≡ true → end L (viewed x) ≤ finalized viewed sort h) → Same viewed sort L h (evidence x ∷ h)
  unfolding some highest first_seat
  low_evidence x h low ends =
      let f = finalized_low viewed sort h in
      let c = finalized_seen h in
      record {
        top = grind (arith, common_steps);
        floor = grind (arith, common_steps);
        current = grind (arith, common_steps);
        marked = refl;
        covered = λ v p. let e = (to_the_end L positive (viewed x) v).0 in grind (arith, common_steps);
        notarized = λ v p. grind (arith, common_steps);
        judged = λ v p. refl;
        passed = λ v p. refl;
        failed = λ v p. refl;
        requested = λ k v u. refl;
        open_to_all = λ k v u. refl;
        target = λ k v u. let n = no_seat k v h in grind (arith, common_steps);
      }

  pub low_verdict : (b : Bool) (x : R) (h : List (Call R)) → viewed x ≤ finalized viewed sort h → Same viewed sort L h (verdict b x ∷ h)
  unfolding some highest first_seat
  low_verdict b x h low =
      let f = finalized_low viewed sort h in
      record {
        top = grind (arith, common_steps);
        floor = grind (arith, common_steps);
        current = grind (arith, common_steps);
        marked = refl;
        covered = λ v p. refl;
        notarized = λ v p. refl;
        judged = λ v p. grind (arith, common_steps);
        passed = λ v p. grind (arith, common_steps);
        failed = λ v p. grind (arith, common_steps);
        requested = λ k v u. refl;
        open_to_all = λ k v u. refl;
        target = λ k v u. let n = no_seat k v h in grind (arith, common_steps);
      }

  -- a request that is settled
  pub settled_request : (w : ℕ) (j : Ask) (t : Option ℕ) (h : List (Call R)) → settles viewed sort L j w h ≡ true → Same viewed sort L h (request w j t ∷ h)
  unfolding some highest first_seat
  settled_request w j t h done =
      let other : (k : Ask) (v : ℕ) → settles viewed sort L k v h ≡ false → (same_kind j k && eqb w v) ≡ false = λ k v u. not_this k v u (cases_Bool (same_kind j k && eqb w v)) in
      record {
        top = grind (arith, common_steps);
        floor = grind (arith, common_steps);
        current = grind (arith, common_steps);
        marked = refl;
        covered = λ v p. refl;
        notarized = λ v p. refl;
        judged = λ v p. refl;
        passed = λ v p. refl;
        failed = λ v p. refl;
        requested = λ k v u. let o = other k v u in grind (arith, common_steps);
        open_to_all = λ k v u. let o = other k v u in grind (arith, common_steps);
        target = λ k v u. let o = other k v u in let n = no_seat k v h in grind (arith, common_steps);
      }
    where
      not_this : (k : Ask) (v : ℕ) → settles viewed sort L k v h ≡ false → ((same_kind j k && eqb w v) ≡ true) ⊎ ((same_kind j k && eqb w v) ≡ false) → (same_kind j k && eqb w v) ≡ false
      not_this k v u (inr f) = f
      not_this k v u (inl t) = let p = and_parts (same_kind j k) (eqb w v) t in absurd (both_ways (settles viewed sort L k v h) u (subst (λ i. settles viewed sort L i v h ≡ true) (same_ask j k p.0) (subst (λ n. settles viewed sort L j n h ≡ true) (eqb-true w v p.1) done)))

  -- what is said already: evidence of its kind and view, the same verdict on its view, a request for the same ask
  module _ (before after : List (Call R)) where
    pub repeated_evidence : (x y : R) → sort y ≡ sort x → viewed y ≡ viewed x → Same viewed sort L (after ++ evidence y ∷ before) (evidence x ∷ (after ++ evidence y ∷ before))
    unfolding some highest first_seat
    repeated_evidence x y kind view =
        let h = after ++ evidence y ∷ before in
        let all : (p : Call R → Bool) → some p h ≡ (some p after || (p (evidence y) || some p before)) = λ p. some_append p after (evidence y ∷ before) in
        record {
          top = let a = highest_append (finalizes viewed sort) after (evidence y ∷ before) in grind (arith, common_steps);
          floor = let a = highest_append (raises viewed sort) after (evidence y ∷ before) in grind (arith, common_steps);
          current = let a = highest_append (sees viewed sort) after (evidence y ∷ before) in grind (arith, common_steps);
          marked = refl;
          covered = λ v p. let a = all (by_evidence (λ z. is_nullification (sort z) && covering L (viewed z) v)) in grind (arith, common_steps);
          notarized = λ v p. let a = all (by_evidence (λ z. is_notarization (sort z) && eqb (viewed z) v)) in grind (arith, common_steps);
          judged = λ v p. refl;
          passed = λ v p. refl;
          failed = λ v p. refl;
          requested = λ k v u. refl;
          open_to_all = λ k v u. refl;
          target = λ k v u. let n = no_seat k v h in grind (arith, common_steps);
        }

    pub repeated_verdict : (b : Bool) (x y : R) → viewed y ≡ viewed x → Same viewed sort L (after ++ verdict b y ∷ before) (verdict b x ∷ (after ++ verdict b y ∷ before))
    unfolding some highest first_seat
    repeated_verdict b x y view =
        let h = after ++ verdict b y ∷ before in
        let all : (p : Call R → Bool) → some p h ≡ (some p after || (p (verdict b y) || some p before)) = λ p. some_append p after (verdict b y ∷ before) in
        record {
          top = grind (arith, common_steps);
          floor = let a = highest_append (raises viewed sort) after (verdict b y ∷ before) in grind (arith, common_steps);
          current = grind (arith, common_steps);
          marked = refl;
          covered = λ v p. refl;
          notarized = λ v p. refl;
          judged = λ v p. let a = all (by_verdict (λ d z. eqb (viewed z) v)) in grind (arith, common_steps);
          passed = λ v p. let a = all (by_verdict (λ d z. d && eqb (viewed z) v)) in grind (arith, common_steps);
          failed = λ v p. let a = all (by_verdict (λ d z. not d && eqb (viewed z) v)) in grind (arith, common_steps);
          requested = λ k v u. refl;
          open_to_all = λ k v u. refl;
          target = λ k v u. let n = no_seat k v h in grind (arith, common_steps);
        }

    pub repeated_request : (w : ℕ) (j : Ask) (t t' : Option ℕ) → is_none t ≡ false → Same viewed sort L (after ++ request w j t' ∷ before) (request w j t ∷ (after ++ request w j t' ∷ before))
    unfolding some highest first_seat
    repeated_request w j t t' seat =
        let h = after ++ request w j t' ∷ before in
        record {
          top = grind (arith, common_steps);
          floor = grind (arith, common_steps);
          current = grind (arith, common_steps);
          marked = refl;
          covered = λ v p. refl;
          notarized = λ v p. refl;
          judged = λ v p. refl;
          passed = λ v p. refl;
          failed = λ v p. refl;
          requested = λ k v u. let a = some_append (is_request k v) after (request w j t' ∷ before) in grind (arith, common_steps);
          open_to_all = λ k v u. grind (arith, common_steps);
          target = λ k v u. let a = some_append (is_request k v) after (request w j t' ∷ before) in let n = no_seat k v h in grind (arith, common_steps);
        }

    -- a request that names no seat clears the seat of one for the same ask
    pub widened_request : (w : ℕ) (j : Ask) (t : Option ℕ) → Same viewed sort L (request w j None ∷ (after ++ request w j t ∷ before)) (after ++ request w j None ∷ before)
    unfolding some highest first_seat
    widened_request w j t =
        let all : (p : Call R → Bool) (s : Option ℕ) → some p (after ++ request w j s ∷ before) ≡ (some p after || (p (request w j s) || some p before)) = λ p s. some_append p after (request w j s ∷ before) in
        let most : (f : Call R → ℕ) (s : Option ℕ) → highest f (after ++ request w j s ∷ before) ≡ max (highest f after) (max (highest f before) (f (request w j s))) = λ f s. highest_append f after (request w j s ∷ before) in
        record {
          top = let a = most (finalizes viewed sort) t in let b = most (finalizes viewed sort) None in grind (arith, common_steps);
          floor = let a = most (raises viewed sort) t in let b = most (raises viewed sort) None in grind (arith, common_steps);
          current = let a = most (sees viewed sort) t in let b = most (sees viewed sort) None in grind (arith, common_steps);
          marked = let a = all is_marker t in let b = all is_marker None in grind (arith, common_steps);
          covered = λ v p. let q = by_evidence (λ z. is_nullification (sort z) && covering L (viewed z) v) in let a = all q t in let b = all q None in grind (arith, common_steps);
          notarized = λ v p. let q = by_evidence (λ z. is_notarization (sort z) && eqb (viewed z) v) in let a = all q t in let b = all q None in grind (arith, common_steps);
          judged = λ v p. let q = by_verdict (λ d z. eqb (viewed z) v) in let a = all q t in let b = all q None in grind (arith, common_steps);
          passed = λ v p. let q = by_verdict (λ d z. d && eqb (viewed z) v) in let a = all q t in let b = all q None in grind (arith, common_steps);
          failed = λ v p. let q = by_verdict (λ d z. not d && eqb (viewed z) v) in let a = all q t in let b = all q None in grind (arith, common_steps);
          requested = λ k v u. let a = all (is_request k v) t in let b = all (is_request k v) None in grind (arith, common_steps);
          open_to_all = λ k v u. let a = all (is_open_request k v) t in let b = all (is_open_request k v) None in grind (arith, common_steps);
          target = λ k v u.
              let a = all (is_open_request k v) t in
              let b = all (is_open_request k v) None in
              let c = all (is_request k v) t in
              let d = first_seat_append k v after (request w j t ∷ before) in
              let e = first_seat_append k v after (request w j None ∷ before) in
              let n = no_seat k v (after ++ request w j t ∷ before) in
              grind (arith, common_steps);
        }
