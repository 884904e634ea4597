-- One message, one step or one pass more.
use Rattle.std.proofs.Common.{◌≡◌, ℕ, ◌+◌, ◌*◌, ◌/◌, ◌%◌, ◌^◌, ◌<◌, List, ◌++◌, length, take, Ok, ap, subst, ◌∙◌, append_assoc, add-one, slice_index_or}
use Rattle.std.proofs.Math.Seq.{take-append_seam}
use Rattle.std.proofs.lemmas.List.{get_or_default}
use Rattle.board.specs.declared.open.Open.{Open}
use Rattle.queue.specs.declared.message.Message.{Message}
use Rattle.queue.specs.declared.message.Message.TheVariants.{Updated, Certified, Resolve, Replayed}
use Rattle.stepping.specs.Carried.{QueueAlone, Called}
use Rattle.steps.specs.Format.{step_of, step_bytes}
use Rattle.stepping.specs.Runs.{AllCalled, Drained, Stepped, Passed, Ran}
use Rattle.steps.specs.Steps.{later_step}
use Rattle.stepping.specs.Tallies.{added}
use Rattle.stepping.specs.declared.member.Member.{Member}
use Rattle.steps.specs.declared.step.Step.{Step}
use Rattle.stepping.specs.declared.tally.Answer.{Answer}
use Rattle.stepping.specs.declared.tally.Answer.TheVariants.{Nothing}
use Rattle.stepping.specs.declared.tally.Tally.{Tally}

-- what was written to the front of a list's part
pub front : {X : Type 0} (xs behind others list : List X) (n : ℕ) → n ≡ length xs → list ≡ xs ++ behind → take n (list ++ others) ≡ xs
front xs behind others list n count e = ap (λ k. take k (list ++ others)) count ∙ ap (λ l. take (length xs) (l ++ others)) e ∙ ap (λ l. take (length xs) l) (append_assoc xs behind others) ∙ take-append_seam xs (behind ++ others)

module _ {B : Type 0} (asks : B → List Open) where
  pub called_more : (xs : List (Message (List ℕ))) (i : ℕ) (d : Message (List ℕ)) (m k n : Member B) (t s u : Tally) (a : Answer) → i < length xs → AllCalled asks xs i m k t s → Called asks a k n (slice_index_or xs i d) → u ≡ added a s → AllCalled asks xs (i + 1) m n t u
  unfolding AllCalled
  called_more xs i d m k n t s u a among before called counted = rw add-one (k, s, a, before, subst (λ x. Called asks a k n x) (get_or_default xs i d Replayed among) called, counted)

  -- no call touches the queue
  pub queue_kept : (a : Answer) (m n : Member B) (x : Message (List ℕ)) → Called asks a m n x → n.queue ≡ m.queue
  queue_kept a m n (Updated k v bs) called = called.fixed.queue
  queue_kept a m n (Certified k v b bs) called = called.fixed.queue
  queue_kept a m n Replayed called = called.fixed.queue
  queue_kept a m n (Resolve p v k t) called = called.fixed.queue

  pub drained_step : (xs ys : List (Message (List ℕ))) (m k n : Member B) (t s u : Tally) → AllCalled asks ys (length ys) k n s u → s ≡ added Nothing t → ys ≡ xs → QueueAlone m k → Drained asks xs m n t u
  drained_step xs ys m k n t s u called counted same others =
      let those = subst (λ zs. AllCalled asks zs (length zs) k n s u) same called in
      record { emptied = k; others = others; called = subst (λ r. AllCalled asks xs (length xs) k n r u) counted those }

  module _ (room : ℕ) where
    pub passed_more : (by : ℕ) (bs : List ℕ) (i : ℕ) (m k n : Member B) (t r u : Tally) (s z : Step) → Passed asks room by bs i m k t r → step_of (step_bytes i bs) ≡ Ok s → z ≡ later_step by s → Stepped asks room z k n r u → Passed asks room by bs (i + 1) m n t u
    unfolding Passed
    passed_more by bs i m k n t r u s z before reads is stepped = rw add-one (k, r, s, before, reads, subst (λ y. Stepped asks room y k n r u) is stepped)

    pub ran_more : (span : ℕ) (bs : List ℕ) (i by : ℕ) (m k n : Member B) (t r u : Tally) → Ran asks room span bs i m k t r → by ≡ i * span % 2 ^ 64 → Passed asks room by bs (length bs / 24) k n r u → Ran asks room span bs (i + 1) m n t u
    unfolding Ran
    ran_more span bs i by m k n t r u before is passed = rw add-one (k, r, before, subst (λ b. Passed asks room b bs (length bs / 24) k n r u) is passed)
