-- A message that repeats one that waits.
use Rattle.std.proofs.Common.{◌≡◌, ℕ, zero, suc, ◌<◌, ◌≤◌, Bool, true, false, ◌&&◌, ltb, eqb, List, [], ◌∷◌, ◌++◌, length, take, drop, set, get_or, Some, None, Result, sym, refl, ap, ◌∙◌, inl, inr, arith}
use Rattle.std.proofs.lemmas.Bool.{true≢false, cases_Bool, and_parts, eqb-true}
use Rattle.std.proofs.lemmas.Grind.{common_steps}
use Rattle.effects.specs.declared.effect.Kind.{Kind as Ask}
use Rattle.effects.specs.declared.effect.Kind.TheVariants as ask
use Rattle.queue.specs.Messages.{view_of, is_marker, same_kind, same_ask, repeats, asks_all, widened}
use Rattle.queue.specs.declared.message.Message.{Message}
use Rattle.queue.specs.declared.message.Message.TheVariants.{Updated, Certified, Resolve, Replayed}
use Rattle.record.specs.declared.fault.Fault.{Fault as Misread}
use Rattle.record.specs.declared.kind.Kind.{Kind}
use Rattle.record.specs.declared.kind.Kind.TheVariants.{Notarization, Nullification, Finalization}
use Rattle.terms.specs.Terms.{end}
use Rattle.history.specs.Calls.{Call, evidence, verdict, is_nullification, some, by_evidence, by_verdict, finalized, settles}
use Rattle.both_ways.specs.Runs.{said_by}
use Rattle.both_ways.proofs.Absorbed.{low_evidence, low_verdict, settled_request, repeated_evidence, repeated_verdict, repeated_request, widened_request}
use Rattle.both_ways.proofs.Same.{Same, same_refl}
use Rattle.both_ways.proofs.Waiting.{Sound}

kind_alike : (k l : Kind) → same_kind k l ≡ true → k ≡ l
kind_alike Notarization Notarization t = refl
kind_alike Nullification Nullification t = refl
kind_alike Finalization Finalization t = refl
kind_alike Notarization Nullification t = absurd (true≢false (sym t))
kind_alike Notarization Finalization t = absurd (true≢false (sym t))
kind_alike Nullification Notarization t = absurd (true≢false (sym t))
kind_alike Nullification Finalization t = absurd (true≢false (sym t))
kind_alike Finalization Notarization t = absurd (true≢false (sym t))
kind_alike Finalization Nullification t = absurd (true≢false (sym t))

ask_alike : (k l : Ask) → same_ask k l ≡ true → k ≡ l
ask_alike ask.Nullification ask.Nullification t = refl
ask_alike ask.Notarization ask.Notarization t = refl
ask_alike ask.Nullification ask.Notarization t = absurd (true≢false (sym t))
ask_alike ask.Notarization ask.Nullification t = absurd (true≢false (sym t))

one_request : (a b v w : ℕ) (k l : Ask) → (eqb a b && eqb v w && same_ask k l) ≡ true → (b ≡ a) × (w ≡ v) × (l ≡ k)
one_request a b v w k l t =
    let e : eqb a b ≡ true = grind (arith, common_steps) in
    let f : eqb v w ≡ true = grind (arith, common_steps) in
    let g : same_ask k l ≡ true = grind (arith, common_steps) in
    (sym (eqb-true a b e), sym (eqb-true v w f), sym (ask_alike k l g))

-- a list, parted at one of its places
pub parted : {X : Type 0} (xs : List X) (i : ℕ) (d : X) → i < length xs → xs ≡ take i xs ++ get_or xs i d ∷ drop (suc i) xs
parted [] i d h = absurd (omega arith)
parted (x ∷ xs) zero d h = refl
parted (x ∷ xs) (suc i) d h = ap (λ ys. x ∷ ys) (parted xs i d (omega arith))

pub parted_set : {X : Type 0} (xs : List X) (i : ℕ) (y : X) → i < length xs → set xs i y ≡ take i xs ++ y ∷ drop (suc i) xs
parted_set [] i y h = absurd (omega arith)
parted_set (x ∷ xs) zero y h = refl
parted_set (x ∷ xs) (suc i) y h = ap (λ ys. x ∷ ys) (parted_set xs i y (omega arith))

module _ {R P : Type 0} (read : P → Result R Misread) (viewed : R → ℕ) (sort : R → Kind) (L : ℕ) (positive : 0 < L) where
  -- what is finalized says nothing more
  pub low_adds_nothing : (w : ℕ) (h : List (Call R)) → w ≤ finalized viewed sort h → (m : Message P) → Sound read viewed sort m → is_marker m ≡ false → view_of m ≤ w → ((x : R) → said_by read m ≡ evidence x ∷ [] → is_nullification (sort x) ≡ true → viewed x ≤ w → end L (viewed x) ≤ w) → Same viewed sort L h (said_by read m ++ h)
  low_adds_nothing w h top (Updated k v p) s mark low ends = rw s.1 (
      let x = s.0 in
      let e = ends x (rw s.1 refl) in
      low_evidence viewed sort L positive x h (omega (arith, s.3, low, top)) (λ null. omega (arith, top, e null (omega (arith, s.3, low)))))
  low_adds_nothing w h top (Certified k v b p) s mark low ends = rw s.1 (low_verdict viewed sort L positive b s.0 h (omega (arith, s.3, low, top)))
  low_adds_nothing w h top (Resolve a v k t) s mark low ends = elim (cases_Bool (ltb v a)) [
    | inl below ↦ rw below (settled_request viewed sort L positive v k t h (settled_low k))
    | inr not_below ↦ rw not_below (same_refl viewed sort L h)
  ]
    where
      settled_low : (k : Ask) → settles viewed sort L k v h ≡ true
      settled_low ask.Nullification = grind (arith, common_steps)
      settled_low ask.Notarization = grind (arith, common_steps)
  low_adds_nothing w h top Replayed s mark low ends = absurd (true≢false mark)

  -- what says the same
  pub repeat_adds_nothing : (m o : Message P) → Sound read viewed sort m → Sound read viewed sort o → repeats m o ≡ true → asks_all m ≡ false
      → ((b c : Bool) (x y : R) → said_by read m ≡ verdict b x ∷ [] → said_by read o ≡ verdict c y ∷ [] → viewed y ≡ viewed x → c ≡ b)
      → (after before : List (Call R)) → Same viewed sort L (after ++ (said_by read o ++ before)) (said_by read m ++ (after ++ (said_by read o ++ before)))
  repeat_adds_nothing (Updated k v p) (Updated l w q) s t same asks agree after before =
      let e = and_parts (same_kind k l) (eqb v w) same in
      let kinds = kind_alike k l e.0 in
      let views = eqb-true v w e.1 in
      rw (s.1, t.1) (repeated_evidence viewed sort L positive before after s.0 t.0 (t.2 ∙ sym kinds ∙ sym s.2) (t.3 ∙ sym views ∙ sym s.3))
  repeat_adds_nothing (Certified k v b p) (Certified l w c q) s t same asks agree after before =
      let view : viewed t.0 ≡ viewed s.0 = t.3 ∙ sym (eqb-true v w same) ∙ sym s.3 in
      let one : c ≡ b = agree b c s.0 t.0 (rw s.1 refl) (rw t.1 refl) view in
      rw (s.1, t.1) (rw one (repeated_verdict viewed sort L positive before after b s.0 t.0 view))
  repeat_adds_nothing (Resolve a v k t) (Resolve b w l u) sm so same asks agree after before =
      let e = one_request a b v w k l same in
      rw (e.0, e.1, e.2) (elim (cases_Bool (ltb v a)) [
        | inl below ↦ rw below (repeated_request viewed sort L positive before after v k t u asks)
        | inr not_below ↦ rw not_below (same_refl viewed sort L (after ++ before))
      ])
  repeat_adds_nothing (Updated k v p) (Certified l w c q) s t same asks agree after before = absurd (true≢false (sym same))
  repeat_adds_nothing (Updated k v p) (Resolve b w l u) s t same asks agree after before = absurd (true≢false (sym same))
  repeat_adds_nothing (Updated k v p) Replayed s t same asks agree after before = absurd (true≢false (sym same))
  repeat_adds_nothing (Certified k v b p) (Updated l w q) s t same asks agree after before = absurd (true≢false (sym same))
  repeat_adds_nothing (Certified k v b p) (Resolve c w l u) s t same asks agree after before = absurd (true≢false (sym same))
  repeat_adds_nothing (Certified k v b p) Replayed s t same asks agree after before = absurd (true≢false (sym same))
  repeat_adds_nothing (Resolve a v k t) (Updated l w q) sm so same asks agree after before = absurd (true≢false (sym same))
  repeat_adds_nothing (Resolve a v k t) (Certified l w c q) sm so same asks agree after before = absurd (true≢false (sym same))
  repeat_adds_nothing (Resolve a v k t) Replayed sm so same asks agree after before = absurd (true≢false (sym same))
  repeat_adds_nothing Replayed (Updated l w q) s t same asks agree after before = absurd (true≢false (sym same))
  repeat_adds_nothing Replayed (Certified l w c q) s t same asks agree after before = absurd (true≢false (sym same))
  repeat_adds_nothing Replayed (Resolve b w l u) s t same asks agree after before = absurd (true≢false (sym same))
  repeat_adds_nothing Replayed Replayed s t same asks agree after before = absurd (true≢false (sym same))

  -- a request for anyone, of which one that waits takes the place
  pub widened_says_both : (m o : Message P) → repeats m o ≡ true → asks_all m ≡ true → (after before : List (Call R)) → Same viewed sort L (said_by read m ++ (after ++ (said_by read o ++ before))) (after ++ (said_by read (widened o) ++ before))
  widened_says_both (Resolve a v k None) (Resolve b w l u) same asks after before =
      let e = one_request a b v w k l same in
      rw (e.0, e.1, e.2) (elim (cases_Bool (ltb v a)) [
        | inl below ↦ rw below (widened_request viewed sort L positive before after v k u)
        | inr not_below ↦ rw not_below (same_refl viewed sort L (after ++ before))
      ])
  widened_says_both (Resolve a v k (Some t)) o same asks after before = absurd (true≢false (sym asks))
  widened_says_both (Resolve a v k None) (Updated l w q) same asks after before = absurd (true≢false (sym same))
  widened_says_both (Resolve a v k None) (Certified l w c q) same asks after before = absurd (true≢false (sym same))
  widened_says_both (Resolve a v k None) Replayed same asks after before = absurd (true≢false (sym same))
  widened_says_both (Updated k v p) o same asks after before = absurd (true≢false (sym asks))
  widened_says_both (Certified k v b p) o same asks after before = absurd (true≢false (sym asks))
  widened_says_both Replayed o same asks after before = absurd (true≢false (sym asks))

  pub widened_sound : (o : Message P) → Sound read viewed sort o → Sound read viewed sort (widened o)
  widened_sound (Updated k v p) s = s
  widened_sound (Certified k v b p) s = s
  widened_sound (Resolve a v k t) s = s
  widened_sound Replayed s = s

  -- it says the same evidence and the same verdicts
  pub widened_evidence : (p : R → Bool) (o : Message P) → some (by_evidence p) (said_by read (widened o)) ≡ some (by_evidence p) (said_by read o)
  unfolding some
  widened_evidence p (Updated k v q) = refl
  widened_evidence p (Certified k v b q) = refl
  widened_evidence p (Resolve a v k t) = elim (cases_Bool (ltb v a)) [ inl b ↦ rw b refl | inr n ↦ rw n refl ]
  widened_evidence p Replayed = refl

  pub widened_verdicts : (p : Bool → R → Bool) (o : Message P) → some (by_verdict p) (said_by read (widened o)) ≡ some (by_verdict p) (said_by read o)
  unfolding some
  widened_verdicts p (Updated k v q) = refl
  widened_verdicts p (Certified k v b q) = refl
  widened_verdicts p (Resolve a v k t) = elim (cases_Bool (ltb v a)) [ inl b ↦ rw b refl | inr n ↦ rw n refl ]
  widened_verdicts p Replayed = refl
