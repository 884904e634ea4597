-- What waits in a queue says, with what was called, the same as all that was offered.
use Rattle.std.proofs.Common.{◌≡◌, ℕ, ◌<◌, ◌≤◌, Bool, true, false, cond, not, ◌&&◌, ◌||◌, eqb, List, [], ◌∷◌, ◌++◌, filter, Ok, Result, append-nil, append_assoc, sym, refl, ap, ◌∙◌, inl, inr, arith}
use Rattle.std.proofs.lemmas.Bool.{true≢false, cases_Bool, eq-eqb}
use Rattle.std.proofs.lemmas.Grind.{common_steps}
use Rattle.queue.specs.Messages.{view_of, is_marker, stays_past}
use Rattle.queue.specs.declared.message.Message.{Message}
use Rattle.queue.specs.declared.message.Message.TheVariants.{Updated, Certified, Resolve, Replayed}
use Rattle.record.specs.declared.fault.Fault.{Fault as Misread}
use Rattle.record.specs.declared.kind.Kind.{Kind}
use Rattle.state.specs.Answers.{is_notarization}
use Rattle.terms.proofs.Laws.{to_the_end}
use Rattle.terms.specs.Terms.{end, covering}
use Rattle.history.specs.Calls.{Call, evidence, is_nullification, some, highest, by_evidence, by_verdict, is_marker as is_marker_call, is_request, is_open_request, marked, requested, first_seat, finalizes, raises, sees, notarized, judged, passed, failed, covered}
use Rattle.both_ways.specs.Runs.{said_by, said}
use Rattle.both_ways.proofs.Absorbed.{some_append, highest_append, first_seat_append}
use Rattle.both_ways.proofs.Finalized.{Fewer}

module _ {R P : Type 0} (read : P → Result R Misread) where
  pub said_append : (ms ns : List (Message P)) → said read (ms ++ ns) ≡ said read ns ++ said read ms
  unfolding said
  said_append [] ns = sym (append-nil (said read ns))
  said_append (m ∷ ms) ns = ap (λ cs. cs ++ said_by read m) (said_append ms ns) ∙ append_assoc (said read ns) (said read ms) (said_by read m)

  module _ (viewed : R → ℕ) (sort : R → Kind) where
    -- a message whose record is one, of the kind and the view that stand beside it
    abbrev pub Sound : Message P → Type 0
    Sound (Updated k v p) = (x : R) × (read p ≡ Ok x) × (sort x ≡ k) × (viewed x ≡ v)
    Sound (Certified k v b p) = (x : R) × (read p ≡ Ok x) × (sort x ≡ k) × (viewed x ≡ v)
    Sound (Resolve w v k t) = Unit {0}
    Sound Replayed = Unit {0}

    abbrev pub AllSound : List (Message P) → Type 0
    AllSound [] = Unit {0}
    AllSound (m ∷ ms) = Sound m × AllSound ms

    module _ (L : ℕ) (positive : 0 < L) where
      -- what is dropped at a finalization says nothing of what lies above it
      low_says : (w : ℕ) (m : Message P) → Sound m → is_marker m ≡ false → view_of m ≤ w → ((x : R) → said_by read m ≡ evidence x ∷ [] → is_nullification (sort x) ≡ true → viewed x ≤ w → end L (viewed x) ≤ w) → Fewer viewed sort L w (said_by read m) []
      unfolding some highest first_seat
      low_says w (Updated k v p) m mark low ends = rw m.1 (
          let x = m.0 in
          let view : viewed x ≤ w = omega (arith, m.3, low) in
          let e = ends x (rw m.1 refl) in
          record {
            top = grind (arith, common_steps);
            floor = grind (arith, common_steps);
            current = grind (arith, common_steps);
            marked = refl;
            covered = λ u past. let c = (to_the_end L positive (viewed x) u).0 in grind (arith, common_steps);
            notarized = λ u past. grind (arith, common_steps);
            judged = λ u past. refl;
            passed = λ u past. refl;
            failed = λ u past. refl;
            requested = λ j u past. refl;
            open_to_all = λ j u past. refl;
            first_seat = λ j u past. refl;
          })
      low_says w (Certified k v b p) m mark low ends = rw m.1 (
          let x = m.0 in
          let view : viewed x ≤ w = omega (arith, m.3, low) in
          record {
            top = grind (arith, common_steps);
            floor = grind (arith, common_steps);
            current = grind (arith, common_steps);
            marked = refl;
            covered = λ u past. refl;
            notarized = λ u past. refl;
            judged = λ u past. grind (arith, common_steps);
            passed = λ u past. grind (arith, common_steps);
            failed = λ u past. grind (arith, common_steps);
            requested = λ j u past. refl;
            open_to_all = λ j u past. refl;
            first_seat = λ j u past. refl;
          })
      low_says w (Resolve a v k t) m mark low ends =
          record {
            top = grind (arith, common_steps);
            floor = grind (arith, common_steps);
            current = grind (arith, common_steps);
            marked = grind (arith, common_steps);
            covered = λ u past. grind (arith, common_steps);
            notarized = λ u past. grind (arith, common_steps);
            judged = λ u past. grind (arith, common_steps);
            passed = λ u past. grind (arith, common_steps);
            failed = λ u past. grind (arith, common_steps);
            requested = λ j u past. grind (arith, common_steps);
            open_to_all = λ j u past. grind (arith, common_steps);
            first_seat = λ j u past. grind (arith, common_steps);
          }
      low_says w Replayed m mark low ends = absurd (true≢false mark)

      -- more calls before them change nothing of that
      fewer_before : (w : ℕ) (c h i : List (Call R)) → Fewer viewed sort L w h i → Fewer viewed sort L w (h ++ c) (i ++ c)
      fewer_before w c h i f =
          let all = λ (p : Call R → Bool). some_append p h c in
          let all' = λ (p : Call R → Bool). some_append p i c in
          record {
            top = let a = highest_append (finalizes viewed sort) h c in let b = highest_append (finalizes viewed sort) i c in let g = f.top in grind (arith, common_steps);
            floor = let a = highest_append (raises viewed sort) h c in let b = highest_append (raises viewed sort) i c in let g = f.floor in grind (arith, common_steps);
            current = let a = highest_append (sees viewed sort) h c in let b = highest_append (sees viewed sort) i c in let g = f.current in grind (arith, common_steps);
            marked = all' is_marker_call ∙ ap (λ b. b || marked c) f.marked ∙ sym (all is_marker_call);
            covered = λ v p. all' _ ∙ ap (λ b. b || covered viewed sort L v c) (f.covered v p) ∙ sym (all _);
            notarized = λ v p. all' _ ∙ ap (λ b. b || notarized viewed sort v c) (f.notarized v p) ∙ sym (all _);
            judged = λ v p. all' _ ∙ ap (λ b. b || judged viewed sort v c) (f.judged v p) ∙ sym (all _);
            passed = λ v p. all' _ ∙ ap (λ b. b || passed viewed sort v c) (f.passed v p) ∙ sym (all _);
            failed = λ v p. all' _ ∙ ap (λ b. b || failed viewed sort v c) (f.failed v p) ∙ sym (all _);
            requested = λ k v p. all' _ ∙ ap (λ b. b || requested k v c) (f.requested k v p) ∙ sym (all _);
            open_to_all = λ k v p. all' _ ∙ ap (λ b. b || some (is_open_request k v) c) (f.open_to_all k v p) ∙ sym (all _);
            first_seat = λ k v p. first_seat_append k v i c ∙ ap (λ s. cond (requested k v c) (first_seat k v c) s) (f.first_seat k v p) ∙ sym (first_seat_append k v h c);
          }

      -- the same calls before them leave it
      fewer_refl : (w : ℕ) (h : List (Call R)) → Fewer viewed sort L w h h
      fewer_refl w h = record {
        top = (omega arith, omega arith);
        floor = (omega arith, omega arith);
        current = (omega arith, omega arith);
        marked = refl;
        covered = λ v p. refl;
        notarized = λ v p. refl;
        judged = λ v p. refl;
        passed = λ v p. refl;
        failed = λ v p. refl;
        requested = λ k v p. refl;
        open_to_all = λ k v p. refl;
        first_seat = λ k v p. refl;
      }

      fewer_trans : (w : ℕ) (h i j : List (Call R)) → Fewer viewed sort L w h i → Fewer viewed sort L w i j → Fewer viewed sort L w h j
      fewer_trans w h i j f g = record {
        top = (omega (arith, f.top, g.top), omega (arith, f.top, g.top));
        floor = (omega (arith, f.floor, g.floor), omega (arith, f.floor, g.floor));
        current = (omega (arith, f.current, g.current), omega (arith, f.current, g.current));
        marked = g.marked ∙ f.marked;
        covered = λ v p. g.covered v p ∙ f.covered v p;
        notarized = λ v p. g.notarized v p ∙ f.notarized v p;
        judged = λ v p. g.judged v p ∙ f.judged v p;
        passed = λ v p. g.passed v p ∙ f.passed v p;
        failed = λ v p. g.failed v p ∙ f.failed v p;
        requested = λ k v p. g.requested k v p ∙ f.requested k v p;
        open_to_all = λ k v p. g.open_to_all k v p ∙ f.open_to_all k v p;
        first_seat = λ k v p. g.first_seat k v p ∙ f.first_seat k v p;
      }

      -- calls after them, of which none says anything
      fewer_after : (w : ℕ) (c h : List (Call R)) → Fewer viewed sort L w c [] → Fewer viewed sort L w (h ++ c) h
      unfolding some highest first_seat
      fewer_after w c h f =
          let all = λ (p : Call R → Bool). some_append p h c in
          record {
            top = let a = highest_append (finalizes viewed sort) h c in let g = f.top in grind (arith, common_steps);
            floor = let a = highest_append (raises viewed sort) h c in let g = f.floor in grind (arith, common_steps);
            current = let a = highest_append (sees viewed sort) h c in let g = f.current in grind (arith, common_steps);
            marked = let a = all is_marker_call in let g = f.marked in grind (arith, common_steps);
            covered = λ v p. let a = all (by_evidence (λ z. is_nullification (sort z) && covering L (viewed z) v)) in let g = f.covered v p in grind (arith, common_steps);
            notarized = λ v p. let a = all (by_evidence (λ z. is_notarization (sort z) && eqb (viewed z) v)) in let g = f.notarized v p in grind (arith, common_steps);
            judged = λ v p. let a = all (by_verdict (λ d z. eqb (viewed z) v)) in let g = f.judged v p in grind (arith, common_steps);
            passed = λ v p. let a = all (by_verdict (λ d z. d && eqb (viewed z) v)) in let g = f.passed v p in grind (arith, common_steps);
            failed = λ v p. let a = all (by_verdict (λ d z. not d && eqb (viewed z) v)) in let g = f.failed v p in grind (arith, common_steps);
            requested = λ k v p. let a = all (is_request k v) in let g = f.requested k v p in grind (arith, common_steps);
            open_to_all = λ k v p. let a = all (is_open_request k v) in let g = f.open_to_all k v p in grind (arith, common_steps);
            first_seat = λ k v p. let a = first_seat_append k v h c in let g = f.requested k v p in grind (arith, common_steps);
          }

      -- no nullification among them reaches a view
      abbrev pub NoneReaches : ℕ → List (Message P) → Type 0
      NoneReaches w ms = (x : R) → some (by_evidence (λ z. is_nullification (sort z) && eqb (viewed z) (viewed x))) (said read ms) ≡ true → viewed x ≤ w → end L (viewed x) ≤ w

      -- what a finalization leaves of those that wait
      pub fewer_left : (w : ℕ) (ms : List (Message P)) → AllSound ms → NoneReaches w ms → Fewer viewed sort L w (said read ms) (said read (filter (λ m. stays_past w m) ms))
      unfolding said some
      fewer_left w [] sound none = fewer_refl w []
      fewer_left w (m ∷ ms) sound none =
          let rest = fewer_left w ms sound.1 (λ x t low. none x (some_append _ (said read ms) (said_by read m) ∙ (let a = t in grind (arith, common_steps))) low) in
          elim (cases_Bool (stays_past w m)) [
            | inl stays ↦ rw stays (fewer_before w (said_by read m) (said read ms) _ rest)
            | inr goes ↦ rw goes (fewer_trans w (said read ms ++ said_by read m) (said read ms) _ (fewer_after w (said_by read m) (said read ms) (low_says w m sound.0 (grind (arith, common_steps)) (grind (arith, common_steps)) (λ x is null low. none x (some_append _ (said read ms) (said_by read m) ∙ rw is (let e = null in let f = eq-eqb (viewed x) (viewed x) refl in grind (arith, common_steps))) low))) rest)
          ]
