-- What was called and what waits say the same as what was offered.
use Rattle.std.proofs.Common.{◌≡◌, ℕ, suc, ◌-◌, ◌<◌, ◌≤◌, Bool, true, false, not, ◌&&◌, ◌||◌, eqb, List, [], ◌∷◌, ◌++◌, take, drop, get_or, filter, is_some, Some, None, Result, Option, append_assoc, sym, refl, ap, ◌∙◌, subst, inl, inr, arith}
use Rattle.std.proofs.lemmas.Bool.{true≢false, both_ways, cases_Bool, cases_lt, or_left, or_right, and_from, and_parts, eq-eqb, eqb-true, leb-true, leb-false, le-ltb}
use Rattle.std.proofs.lemmas.Grind.{common_steps}
use Rattle.std.proofs.lemmas.List.{take-append-drop}
use Rattle.std.proofs.lemmas.List.Quantifiers.{position-Some}
use Rattle.queue.proofs.Offers.{offered_steps}
use Rattle.queue.specs.Messages.{view_of, is_marker, is_finalization as finalizes_message, stays_past, repeats, asks_all, widened}
use Rattle.queue.specs.Queues.{Queue, is_outdated, is_proper, finalized as finalized_queue, is_full, found_at, is_repeated, merged, offered, finds_full, drained, drained_from}
use Rattle.queue.specs.declared.message.Message.{Message}
use Rattle.queue.specs.declared.message.Message.TheVariants.{Updated, Certified, Resolve, Replayed}
use Rattle.record.specs.declared.fault.Fault.{Fault as Misread}
use Rattle.record.specs.declared.kind.Kind.{Kind}
use Rattle.record.specs.declared.kind.Kind.TheVariants.{Notarization, Nullification, Finalization}
use Rattle.terms.proofs.Laws.{to_the_end}
use Rattle.terms.specs.Terms.{end, covering}
use Rattle.history.specs.Calls.{Call, evidence, verdict, marker, request, is_nullification, is_finalization, some, highest, by_evidence, by_verdict, finalizes, finalized, covered}
use Rattle.both_ways.specs.Runs.{said_by, said, Through, nothing_offered, offered_next, emptied, VerdictsAgree, NoneFinalizedCovered}
use Rattle.both_ways.proofs.Absorbed.{some_append, highest_append}
use Rattle.both_ways.proofs.Finalized.{Fewer, finalized_first}
use Rattle.both_ways.proofs.Repeated.{low_adds_nothing, repeat_adds_nothing, widened_says_both, widened_sound, widened_evidence, widened_verdicts, parted, parted_set}
use Rattle.both_ways.proofs.Same.{Same, same_refl, same_sym, same_trans, same_more}
use Rattle.both_ways.proofs.Waiting.{said_append, Sound, AllSound, NoneReaches, fewer_left}

abbrev pub held_list : {P : Type 0} → Option (Message P) → List (Message P)
held_list None = []
held_list (Some f) = f ∷ []

-- all that waits, in the order in which it comes out
abbrev pub inside : {P : Type 0} → Queue P → List (Message P)
inside q = held_list q.finalization ++ q.messages

out_of : {P : Type 0} (n : ℕ) (f : Option (Message P)) (ms : List (Message P)) → held_list f ++ ms ≡ (drained_from n f ms).0 ++ inside (drained_from n f ms).1
out_of n None ms = sym (take-append-drop n ms)
out_of n (Some f) ms = elim (cases_Bool (eqb n 0)) [
  | inl t ↦ rw t refl
  | inr g ↦ rw g (ap (λ xs. f ∷ xs) (sym (take-append-drop (n - 1) ms)))
]

pub inside_drained : {P : Type 0} (n : ℕ) (q : Queue P) → inside q ≡ (drained n q).0 ++ inside (drained n q).1
unfolding drained
inside_drained n q = out_of n q.finalization q.messages

proper_from : {P : Type 0} (n : ℕ) (f : Option (Message P)) (ms : List (Message P)) → is_proper f ≡ true → is_proper (drained_from n f ms).1.finalization ≡ true
proper_from n None ms p = refl
proper_from n (Some f) ms p = elim (cases_Bool (eqb n 0)) [ inl t ↦ rw t p | inr g ↦ rw g refl ]

pub proper_drained : {P : Type 0} (n : ℕ) (q : Queue P) → is_proper q.finalization ≡ true → is_proper (drained n q).1.finalization ≡ true
unfolding drained
proper_drained n q p = proper_from n q.finalization q.messages p

-- what is held is dropped at a later finalization
held_goes : {P : Type 0} (w : ℕ) (f : Option (Message P)) (ms : List (Message P)) → is_proper f ≡ true → is_outdated w f ≡ false → filter (λ m. stays_past w m) (held_list f ++ ms) ≡ filter (λ m. stays_past w m) ms
held_goes w None ms p o = refl
held_goes w (Some (Updated Finalization v x)) ms p o = rw (le-ltb w v (omega (arith, leb-false w v o))) refl
held_goes w (Some (Updated Notarization v x)) ms p o = absurd (true≢false (sym p))
held_goes w (Some (Updated Nullification v x)) ms p o = absurd (true≢false (sym p))
held_goes w (Some (Certified k v s x)) ms p o = absurd (true≢false (sym p))
held_goes w (Some (Resolve a v k t)) ms p o = absurd (true≢false (sym p))
held_goes w (Some Replayed) ms p o = absurd (true≢false (sym p))

module _ {R P : Type 0} (read : P → Result R Misread) (viewed : R → ℕ) (sort : R → Kind) (L : ℕ) (positive : 0 < L) where
  pub record Fair (h : List (Call R)) : Type 0 where
    pub agree : VerdictsAgree viewed sort h
    pub apart : NoneFinalizedCovered viewed sort L h

  -- what holds of more calls holds of the first of them
  pub fair_before : (c h : List (Call R)) → Fair (c ++ h) → Fair h
  fair_before c h f = record {
    agree = λ v t. let e = f.agree v (some_append _ c h ∙ or_right _ _ t) in let a = some_append (by_verdict (λ b x. not b && eqb (viewed x) v)) c h in grind (arith, common_steps);
    apart = λ v t. let e = f.apart v (some_append _ c h ∙ or_right _ _ t) in let a = some_append (by_evidence (λ x. is_nullification (sort x) && covering L (viewed x) v)) c h in grind (arith, common_steps);
  }

  pub said_more : (ms : List (Message P)) (m : Message P) → said read (ms ++ m ∷ []) ≡ said_by read m ++ said read ms
  unfolding said
  said_more ms m = said_append read ms (m ∷ [])

  pub same_all : (c h i : List (Call R)) → Same viewed sort L h i → Same viewed sort L (c ++ h) (c ++ i)
  same_all [] h i s = s
  same_all (x ∷ c) h i s = same_more viewed sort L x (c ++ h) (c ++ i) (same_all c h i s)

  pub sound_append : (ms ns : List (Message P)) → AllSound read viewed sort ms → AllSound read viewed sort ns → AllSound read viewed sort (ms ++ ns)
  sound_append [] ns a b = b
  sound_append (m ∷ ms) ns a b = (a.0, sound_append ms ns a.1 b)

  sound_parts : (ms ns : List (Message P)) → AllSound read viewed sort (ms ++ ns) → AllSound read viewed sort ms × AllSound read viewed sort ns
  sound_parts [] ns a = (tt, a)
  sound_parts (m ∷ ms) ns a = let p = sound_parts ms ns a.1 in ((a.0, p.0), p.1)

  sound_filter : (p : Message P → Bool) (ms : List (Message P)) → AllSound read viewed sort ms → AllSound read viewed sort (filter p ms)
  sound_filter p [] a = tt
  sound_filter p (m ∷ ms) a = elim (cases_Bool (p m)) [ inl t ↦ rw t (a.0, sound_filter p ms a.1) | inr f ↦ rw f (sound_filter p ms a.1) ]

  some_filter : (p : Call R → Bool) (keep : Message P → Bool) (ms : List (Message P)) → some p (said read (filter keep ms)) ≡ true → some p (said read ms) ≡ true
  unfolding said
  some_filter p keep [] t = t
  some_filter p keep (m ∷ ms) t = some_append p (said read ms) (said_by read m) ∙ elim (cases_Bool (keep m)) [
    | inl k ↦ let e = rw k at t in let a = some_append p (said read (filter keep ms)) (said_by read m) in let i = some_filter p keep ms in grind (arith, common_steps)
    | inr k ↦ or_left _ _ (some_filter p keep ms (rw k at t))
  ]

  -- what is carried along
  pub record Inv (ms cs : List (Message P)) (q : Queue P) : Type 0 where
    pub same : Same viewed sort L (said read ms) (said read (inside q) ++ said read cs)
    pub sound : AllSound read viewed sort (inside q)
    pub proper : is_proper q.finalization ≡ true
    pub of_evidence : (p : R → Bool) → some (by_evidence p) (said read (inside q)) ≡ true → some (by_evidence p) (said read ms) ≡ true
    pub of_verdicts : (p : Bool → R → Bool) → some (by_verdict p) (said read (inside q)) ≡ true → some (by_verdict p) (said read ms) ≡ true

  inv_empty : Inv [] [] (record { finalization = None; messages = [] })
  unfolding said
  inv_empty = record { same = same_refl viewed sort L []; sound = tt; proper = refl; of_evidence = λ p t. t; of_verdicts = λ p t. t }

  inv_emptied : (n : ℕ) (ms cs : List (Message P)) (q : Queue P) → Inv ms cs q → Inv ms (cs ++ (drained n q).0) (drained n q).1
  inv_emptied n ms cs q i =
      let out = (drained n q).0 in
      let rest = (drained n q).1 in
      let parts = inside_drained n q in
      let says : said read (inside q) ++ said read cs ≡ said read (inside rest) ++ said read (cs ++ out) =
      ap (λ xs. said read xs ++ said read cs) parts ∙ ap (λ xs. xs ++ said read cs) (said_append read out (inside rest)) ∙ append_assoc (said read (inside rest)) (said read out) (said read cs) ∙ ap (λ xs. said read (inside rest) ++ xs) (sym (said_append read cs out)) in
      let fewer : (p : Call R → Bool) → some p (said read (inside rest)) ≡ true → some p (said read (inside q)) ≡ true = λ p t. ap (λ xs. some p (said read xs)) parts ∙ ap (some p) (said_append read out (inside rest)) ∙ some_append p (said read (inside rest)) (said read out) ∙ or_left _ _ t in
      record {
        same = subst (Same viewed sort L (said read ms)) says i.same;
        sound = (sound_parts out (inside rest) (subst (AllSound read viewed sort) parts i.sound)).1;
        proper = proper_drained n q i.proper;
        of_evidence = λ p t. i.of_evidence p (fewer (by_evidence p) t);
        of_verdicts = λ p t. i.of_verdicts p (fewer (by_verdict p) t);
      }

  -- one more message, where it is dropped
  dropped : (m : Message P) (ms cs : List (Message P)) (q : Queue P) → Inv ms cs q → Same viewed sort L (said_by read m ++ (said read (inside q) ++ said read cs)) (said read (inside q) ++ said read cs) → Inv (ms ++ m ∷ []) cs q
  dropped m ms cs q i nothing =
      let more = said_more ms m in
      record {
        same = subst (λ h. Same viewed sort L h (said read (inside q) ++ said read cs)) (sym more) (same_trans viewed sort L _ _ _ (same_all (said_by read m) (said read ms) (said read (inside q) ++ said read cs) i.same) nothing);
        sound = i.sound;
        proper = i.proper;
        of_evidence = λ p t. ap (some (by_evidence p)) more ∙ some_append _ (said_by read m) (said read ms) ∙ or_right _ _ (i.of_evidence p t);
        of_verdicts = λ p t. ap (some (by_verdict p)) more ∙ some_append _ (said_by read m) (said read ms) ∙ or_right _ _ (i.of_verdicts p t);
      }

  -- where it waits behind the others
  put_last : (m : Message P) (ms cs : List (Message P)) (q : Queue P) → Sound read viewed sort m → Inv ms cs q → Inv (ms ++ m ∷ []) cs (record { finalization = q.finalization; messages = q.messages ++ m ∷ [] })
  put_last m ms cs q sound i =
      let more = said_more ms m in
      let all : said read (held_list q.finalization ++ (q.messages ++ m ∷ [])) ≡ said_by read m ++ said read (inside q) = ap (said read) (sym (append_assoc (held_list q.finalization) q.messages (m ∷ []))) ∙ said_more (inside q) m in
      record {
        same = rw (more, all) (subst (Same viewed sort L (said_by read m ++ said read ms)) (sym (append_assoc (said_by read m) (said read (inside q)) (said read cs))) (same_all (said_by read m) (said read ms) (said read (inside q) ++ said read cs) i.same));
        sound = subst (AllSound read viewed sort) (append_assoc (held_list q.finalization) q.messages (m ∷ [])) (sound_append (inside q) (m ∷ []) i.sound (sound, tt));
        proper = i.proper;
        of_evidence = λ p t. let e = ap (some (by_evidence p)) all in let a = some_append (by_evidence p) (said_by read m) (said read (inside q)) in let b = i.of_evidence p in ap (some (by_evidence p)) more ∙ some_append _ (said_by read m) (said read ms) ∙ (let u = t in grind (arith, common_steps));
        of_verdicts = λ p t. let e = ap (some (by_verdict p)) all in let a = some_append (by_verdict p) (said_by read m) (said read (inside q)) in let b = i.of_verdicts p in ap (some (by_verdict p)) more ∙ some_append _ (said_by read m) (said read ms) ∙ (let u = t in grind (arith, common_steps));
      }

  -- a nullification that reaches past a view covers it
  some_weaker : (p p' : Call R → Bool) → ((c : Call R) → p c ≡ true → p' c ≡ true) → (h : List (Call R)) → some p h ≡ true → some p' h ≡ true
  unfolding some
  some_weaker p p' more [] t = t
  some_weaker p p' more (c ∷ h) t = let m = more c in let i = some_weaker p p' more h in grind (arith, common_steps)

  short_of : (w : ℕ) (h : List (Call R)) (x : R) → some (by_evidence (λ z. is_nullification (sort z) && eqb (viewed z) (viewed x))) h ≡ true → covered viewed sort L w h ≡ false → viewed x ≤ w → end L (viewed x) ≤ w
  short_of w h x t free low = elim (cases_lt w (end L (viewed x))) [
    | inr short ↦ short
    | inl far ↦
        let covers : covering L (viewed x) w ≡ true = (to_the_end L positive (viewed x) w).1 (low, omega arith) in
        absurd (both_ways _ free (some_weaker _ (by_evidence (λ z. is_nullification (sort z) && covering L (viewed z) w)) (elim [
          | evidence z ↦ λ e. let q = and_parts (is_nullification (sort z)) (eqb (viewed z) (viewed x)) e in let c : covering L (viewed z) w ≡ true = ap (λ n. covering L n w) (eqb-true (viewed z) (viewed x) q.1) ∙ covers in grind (arith, common_steps)
          | verdict b z ↦ λ e. e
          | marker ↦ λ e. e
          | request v k a ↦ λ e. e
        ]) h t))
  ]

  -- a finalization takes its place
  finalize : (w : ℕ) (p : P) (ms cs : List (Message P)) (q : Queue P) → Sound read viewed sort (Updated Finalization w p) → is_outdated w q.finalization ≡ false → Fair (said read (ms ++ Updated Finalization w p ∷ [])) → Inv ms cs q → Inv (ms ++ Updated Finalization w p ∷ []) cs (finalized_queue (Updated Finalization w p) q)
  unfolding said some
  finalize w p ms cs q s newer fair i =
      let m = Updated Finalization w p in
      let x = s.0 in
      let is : said_by read m ≡ evidence x ∷ [] = rw s.1 refl in
      let more : said read (ms ++ m ∷ []) ≡ evidence x ∷ said read ms = said_more ms m ∙ ap (λ c. c ++ said read ms) is in
      let left = filter (λ o. stays_past w o) q.messages in
      let own : some (by_evidence (λ z. is_finalization (sort z) && eqb (viewed z) w)) (said read (ms ++ m ∷ [])) ≡ true = ap (some _) more ∙ (let e = ap is_finalization s.2 in let v = eq-eqb (viewed x) w s.3 in grind (arith, common_steps)) in
      let reaches : NoneReaches read viewed sort L positive w (inside q) = λ y t low. short_of w (said read (ms ++ m ∷ [])) y (ap (some _) (said_more ms m) ∙ some_append _ (said_by read m) (said read ms) ∙ or_right _ _ (i.of_evidence _ t)) (fair.apart w own) low in
      let fewer : Fewer viewed sort L w (said read (inside q)) (said read left) = subst (λ ns. Fewer viewed sort L w (said read (inside q)) (said read ns)) (held_goes w q.finalization q.messages i.proper newer) (fewer_left read viewed sort L positive w (inside q) i.sound reaches) in
      let moved = finalized_first viewed sort L x s.2 (said read (inside q)) (said read left) (said read cs) (subst (λ n. Fewer viewed sort L n (said read (inside q)) (said read left)) (sym s.3) fewer) in
      let after : said read (m ∷ left) ++ said read cs ≡ said read left ++ evidence x ∷ said read cs = ap (λ c. (said read left ++ c) ++ said read cs) is ∙ append_assoc (said read left) (evidence x ∷ []) (said read cs) in
      let of_left : (f : Call R → Bool) → some f (said read left) ≡ true → some f (said read (inside q)) ≡ true = λ f t. ap (some f) (said_append read (held_list q.finalization) q.messages) ∙ some_append f (said read q.messages) (said read (held_list q.finalization)) ∙ or_left _ _ (some_filter f (λ o. stays_past w o) q.messages t) in
      record {
        same = rw (more, after) (same_trans viewed sort L _ _ _ (same_more viewed sort L (evidence x) (said read ms) (said read (inside q) ++ said read cs) i.same) moved);
        sound = (s, sound_filter (λ o. stays_past w o) q.messages (sound_parts (held_list q.finalization) q.messages i.sound).1);
        proper = refl;
        of_evidence = λ f t. ap (some _) (said_more ms m) ∙ some_append _ (said_by read m) (said read ms) ∙ (let a = some_append (by_evidence f) (said read left) (said_by read m) in let b = of_left (by_evidence f) in let c = i.of_evidence f in let u = t in grind (arith, common_steps));
        of_verdicts = λ f t. ap (some _) (said_more ms m) ∙ some_append _ (said_by read m) (said read ms) ∙ (let a = some_append (by_verdict f) (said read left) (said_by read m) in let b = of_left (by_verdict f) in let c = i.of_verdicts f in let u = t in grind (arith, common_steps));
      }

  -- what the last message says
  said_first : (m : Message P) (ms : List (Message P)) (p : Call R → Bool) (c : Call R) → said_by read m ≡ c ∷ [] → p c ≡ true → some p (said read (ms ++ m ∷ [])) ≡ true
  unfolding some
  said_first m ms p c is t = ap (some p) (said_more ms m ∙ ap (λ cs. cs ++ said read ms) is) ∙ or_left _ _ t

  -- what was said before it
  said_before : (m : Message P) (ms : List (Message P)) (p : Call R → Bool) → some p (said read ms) ≡ true → some p (said read (ms ++ m ∷ [])) ≡ true
  said_before m ms p t = ap (some p) (said_more ms m) ∙ some_append p (said_by read m) (said read ms) ∙ or_right _ _ t

  says_one : (p : Call R → Bool) (m : Message P) (c : Call R) → said_by read m ≡ c ∷ [] → p c ≡ true → some p (said_by read m) ≡ true
  unfolding some
  says_one p m c is t = ap (some p) is ∙ or_left _ _ t

  -- the held finalization, and what it says
  record Holds (q : Queue P) (w : ℕ) : Type 0 where
    top : (h : List (Call R)) → w ≤ finalized viewed sort (said read (inside q) ++ h)
    own : some (by_evidence (λ z. is_finalization (sort z) && eqb (viewed z) w)) (said read (inside q)) ≡ true

  holds : (f : Message P) (ns : List (Message P)) → Sound read viewed sort f → finalizes_message f ≡ true → Holds (record { finalization = Some f; messages = ns }) (view_of f)
  unfolding said some highest
  holds (Updated Finalization w p) ns s e =
      let x = s.0 in
      let is : said_by read (Updated Finalization w p) ≡ evidence x ∷ [] = rw s.1 refl in
      let fin = ap is_finalization s.2 in
      record {
        top = λ h. let a = highest_append (finalizes viewed sort) (said read ns ++ said_by read (Updated Finalization w p)) h in let b = highest_append (finalizes viewed sort) (said read ns) (said_by read (Updated Finalization w p)) in let c = ap (highest (finalizes viewed sort)) is in let v = s.3 in grind (arith, common_steps);
        own = some_append _ (said read ns) (said_by read (Updated Finalization w p)) ∙ rw is (let v = eq-eqb (viewed x) w s.3 in grind (arith, common_steps));
      }
  holds (Updated Notarization w p) ns s e = absurd (true≢false (sym e))
  holds (Updated Nullification w p) ns s e = absurd (true≢false (sym e))
  holds (Certified k w b p) ns s e = absurd (true≢false (sym e))
  holds (Resolve a w k t) ns s e = absurd (true≢false (sym e))
  holds Replayed ns s e = absurd (true≢false (sym e))

  -- what is at or below the held finalization is dropped
  outdated : (m : Message P) (ms cs : List (Message P)) (f : Option (Message P)) (ns : List (Message P)) → Sound read viewed sort m → is_marker m ≡ false → is_outdated (view_of m) f ≡ true → Fair (said read (ms ++ m ∷ [])) → Inv ms cs (record { finalization = f; messages = ns }) → Inv (ms ++ m ∷ []) cs (record { finalization = f; messages = ns })
  unfolding some
  outdated m ms cs None ns s mark old fair i = absurd (true≢false (sym old))
  outdated m ms cs (Some f) ns s mark old fair i =
      let q : Queue P = record { finalization = Some f; messages = ns } in
      let w = view_of f in
      let h = holds f ns i.sound.0 i.proper in
      let more = said_more ms m in
      let free = fair.apart w (ap (some _) more ∙ some_append _ (said_by read m) (said read ms) ∙ or_right _ _ (i.of_evidence _ h.own)) in
      let low = leb-true (view_of m) w old in
      dropped m ms cs q i (same_sym viewed sort L _ _ (low_adds_nothing read viewed sort L positive w (said read (inside q) ++ said read cs) (h.top (said read cs)) m s mark low
      (λ x is null low. short_of w (said read (ms ++ m ∷ [])) x (said_first m ms (by_evidence (λ z. is_nullification (sort z) && eqb (viewed z) (viewed x))) (evidence x) is (and_from _ _ null (eq-eqb (viewed x) (viewed x) refl))) free low)))

  says_parts : (held ahead behind cs : List (Message P)) (n : Message P) → said read (held ++ (ahead ++ n ∷ behind)) ++ said read cs ≡ said read behind ++ (said_by read n ++ (said read ahead ++ (said read held ++ said read cs)))
  unfolding said
  says_parts held ahead behind cs n = rw (said_append read held (ahead ++ n ∷ behind), said_append read ahead (n ∷ behind)) (
      append_assoc ((said read behind ++ said_by read n) ++ said read ahead) (said read held) (said read cs)
      ∙ append_assoc (said read behind ++ said_by read n) (said read ahead) (said read held ++ said read cs)
      ∙ append_assoc (said read behind) (said_by read n) (said read ahead ++ (said read held ++ said read cs)))

  some_parts : (p : Call R → Bool) (held ahead behind : List (Message P)) (n : Message P) → some p (said read (held ++ (ahead ++ n ∷ behind))) ≡ (some p (said read behind) || (some p (said_by read n) || (some p (said read ahead) || some p (said read held))))
  unfolding said
  some_parts p held ahead behind n =
      let a = ap (some p) (said_append read held (ahead ++ n ∷ behind) ∙ ap (λ xs. xs ++ said read held) (said_append read ahead (n ∷ behind))) in
      let b = some_append p ((said read behind ++ said_by read n) ++ said read ahead) (said read held) in
      let c = some_append p (said read behind ++ said_by read n) (said read ahead) in
      let d = some_append p (said read behind) (said_by read n) in
      grind (arith, common_steps)

  -- verdicts on one view that were offered are the same
  one_verdict : (b c : Bool) (x y : R) (h : List (Call R)) → Fair h → viewed y ≡ viewed x → ((p : Bool → R → Bool) → p b x ≡ true → some (by_verdict p) h ≡ true) → ((p : Bool → R → Bool) → p c y ≡ true → some (by_verdict p) h ≡ true) → c ≡ b
  one_verdict true true x y h fair view one other = refl
  one_verdict false false x y h fair view one other = refl
  one_verdict true false x y h fair view one other = absurd (both_ways _ (fair.agree (viewed x) (one (λ b z. b && eqb (viewed z) (viewed x)) (eq-eqb (viewed x) (viewed x) refl))) (other (λ b z. not b && eqb (viewed z) (viewed x)) (eq-eqb (viewed y) (viewed x) view)))
  one_verdict false true x y h fair view one other = absurd (both_ways _ (fair.agree (viewed x) (other (λ b z. b && eqb (viewed z) (viewed x)) (eq-eqb (viewed y) (viewed x) view))) (one (λ b z. not b && eqb (viewed z) (viewed x)) (eq-eqb (viewed x) (viewed x) refl)))

  -- where one that says the same waits
  repeated : (m : Message P) (ms cs : List (Message P)) (f : Option (Message P)) (ns : List (Message P)) (j : ℕ) → Sound read viewed sort m → found_at m ns ≡ Some j → Fair (said read (ms ++ m ∷ [])) → Inv ms cs (record { finalization = f; messages = ns }) → Inv (ms ++ m ∷ []) cs (record { finalization = f; messages = merged m ns })
  repeated m ms cs f ns j s found fair i =
      let q : Queue P = record { finalization = f; messages = ns } in
      let at = position-Some (λ o. repeats m o) ns j m found in
      let o = get_or ns j m in
      let ahead = take j ns in
      let behind = drop (suc j) ns in
      let parts : ns ≡ ahead ++ o ∷ behind = parted ns j m at.0 in
      let rest : List (Call R) = said read ahead ++ (said read (held_list f) ++ said read cs) in
      let sound = sound_parts (held_list f) ns i.sound in
      let sounds = sound_parts ahead (o ∷ behind) (subst (AllSound read viewed sort) parts sound.1) in
      let says : (n : Message P) → said read (held_list f ++ (ahead ++ n ∷ behind)) ++ said read cs ≡ said read behind ++ (said_by read n ++ rest) = λ n. says_parts (held_list f) ahead behind cs n in
      let whole : held_list f ++ ns ≡ held_list f ++ (ahead ++ o ∷ behind) = ap (λ xs. held_list f ++ xs) parts in
      let here : said read (inside q) ++ said read cs ≡ said read behind ++ (said_by read o ++ rest) = ap (λ xs. said read xs ++ said read cs) whole ∙ says o in
      let more = said_more ms m in
      let agree : (b c : Bool) (x y : R) → said_by read m ≡ verdict b x ∷ [] → said_by read o ≡ verdict c y ∷ [] → viewed y ≡ viewed x → c ≡ b = λ b c x y is_m is_o view. one_verdict b c x y (said read (ms ++ m ∷ [])) fair view
      (λ p t. said_first m ms (by_verdict p) (verdict b x) is_m t)
      (λ p t. ap (some _) more ∙ some_append _ (said_by read m) (said read ms) ∙ or_right _ _ (i.of_verdicts p (ap (λ xs. some (by_verdict p) (said read xs)) whole ∙ some_parts (by_verdict p) (held_list f) ahead behind o ∙ or_right _ _ (or_left _ _ (says_one (by_verdict p) o (verdict c y) is_o t))))) in
      elim (cases_Bool (asks_all m)) [
        | inr keeps ↦ rw keeps (dropped m ms cs q i (rw here (same_sym viewed sort L _ _ (repeat_adds_nothing read viewed sort L positive m o s sounds.1.0 at.1 keeps agree (said read behind) rest))))
        | inl widens ↦ rw (widens, found, parted_set ns j (widened o) at.0) (
            record {
              same = rw (more, says (widened o)) (same_trans viewed sort L _ _ _ (same_all (said_by read m) (said read ms) (said read (inside q) ++ said read cs) i.same) (rw here (widened_says_both read viewed sort L positive m o at.1 widens (said read behind) rest)));
              sound = sound_append (held_list f) (ahead ++ widened o ∷ behind) sound.0 (sound_append ahead (widened o ∷ behind) sounds.0 (widened_sound read viewed sort L positive o sounds.1.0, sounds.1.1));
              proper = i.proper;
              of_evidence = λ p t. said_before m ms (by_evidence p) (i.of_evidence p (ap (λ xs. some (by_evidence p) (said read xs)) whole ∙ some_parts (by_evidence p) (held_list f) ahead behind o ∙ (let a = some_parts (by_evidence p) (held_list f) ahead behind (widened o) in let e = widened_evidence read viewed sort L positive p o in let u = t in grind (arith, common_steps))));
              of_verdicts = λ p t. said_before m ms (by_verdict p) (i.of_verdicts p (ap (λ xs. some (by_verdict p) (said read xs)) whole ∙ some_parts (by_verdict p) (held_list f) ahead behind o ∙ (let a = some_parts (by_verdict p) (held_list f) ahead behind (widened o) in let e = widened_verdicts read viewed sort L positive p o in let u = t in grind (arith, common_steps))));
            })
      ]

  one_of : (o : Option ℕ) → is_some o ≡ true → (j : ℕ) × (o ≡ Some j)
  one_of None t = absurd (true≢false (sym t))
  one_of (Some j) t = (j, refl)

  -- one more message
  inv_offered : (m : Message P) (ms cs : List (Message P)) (q : Queue P) → Sound read viewed sort m → finds_full m q ≡ false → Fair (said read (ms ++ m ∷ [])) → Inv ms cs q → Inv (ms ++ m ∷ []) cs (offered m q)
  inv_offered m ms cs q s room fair i = rw (offered_steps m q) (elim (cases_Bool (is_marker m)) [
    | inl mark ↦ rw mark (let free : is_full q ≡ false = grind (arith, common_steps) in rw free (put_last m ms cs q s i))
    | inr other ↦ rw other (elim (cases_Bool (is_outdated (view_of m) q.finalization)) [
      | inl old ↦ rw old (outdated m ms cs q.finalization q.messages s other old fair i)
      | inr newer ↦ rw newer (elim (cases_Bool (finalizes_message m)) [
        | inl last ↦ rw last (a_finalization m last s newer fair)
        | inr waits ↦ rw waits (elim (cases_Bool (is_repeated m q.messages)) [
          | inl again ↦ let j = one_of (found_at m q.messages) again in rw again (repeated m ms cs q.finalization q.messages j.0 s j.1 fair i)
          | inr first ↦ rw first (let free : is_full q ≡ false = grind (arith, common_steps) in rw free (put_last m ms cs q s i))
        ])
      ])
    ])
  ])
    where
      a_finalization : (m : Message P) → finalizes_message m ≡ true → Sound read viewed sort m → is_outdated (view_of m) q.finalization ≡ false → Fair (said read (ms ++ m ∷ [])) → Inv (ms ++ m ∷ []) cs (finalized_queue m q)
      a_finalization (Updated Finalization w p) last s newer fair = finalize w p ms cs q s newer fair i
      a_finalization (Updated Notarization w p) last s newer fair = absurd (true≢false (sym last))
      a_finalization (Updated Nullification w p) last s newer fair = absurd (true≢false (sym last))
      a_finalization (Certified k w b p) last s newer fair = absurd (true≢false (sym last))
      a_finalization (Resolve a w k t) last s newer fair = absurd (true≢false (sym last))
      a_finalization Replayed last s newer fair = absurd (true≢false (sym last))

  -- however it was emptied in between
  pub through : (ms cs : List (Message P)) (q : Queue P) → Through ms cs q → AllSound read viewed sort ms → Fair (said read ms) → Inv ms cs q
  through _ _ _ nothing_offered sound fair = inv_empty
  through _ cs _ (offered_next {ms} {q = q} m past room) sound fair =
      let parts = sound_parts ms (m ∷ []) sound in
      inv_offered m ms cs q parts.1.0 room fair (through ms cs q past parts.0 (fair_before (said_by read m) (said read ms) (subst Fair (said_more ms m) fair)))
  through ms _ _ (emptied {cs = cs} {q = q} n past) sound fair = inv_emptied n ms cs q (through ms cs q past sound fair)
