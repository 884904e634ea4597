-- Steps one after the other, each at the member and the counts that the one before it left.
use Rattle.std.specs.Prelude.{◌≡◌, ℕ, zero, suc, ◌*◌, ◌/◌, ◌%◌, ◌^◌, ◌≤◌, true, List, [], length, min, None, Ok, slice_index_or}
use Rattle.board.specs.declared.open.Open.{Open}
use Rattle.effects.specs.Lists.{entries, places}
use Rattle.queue.specs.Pendings.{queue_of}
use Rattle.queue.specs.Queues.{drained}
use Rattle.queue.specs.declared.message.Message.{Message}
use Rattle.queue.specs.declared.message.Message.TheVariants.{Replayed}
use Rattle.state.specs.States.{held, term, epoch_of, fits}
use Rattle.store.specs.Fresh.{fresh}
use Rattle.stepping.specs.Carried.{QueueAlone, Called, Carried}
use Rattle.steps.specs.Format.{step_of, step_bytes}
use Rattle.steps.specs.Steps.{later_step}
use Rattle.stepping.specs.Tallies.{none_yet, added}
use Rattle.steps.specs.declared.header.Header.{Header}
use Rattle.stepping.specs.declared.member.Member.{Member}
use Rattle.steps.specs.declared.step.Step.{Step as OneStep}
use Rattle.steps.specs.declared.step.Step.TheVariants.{Order, Drain}
use Rattle.stepping.specs.declared.tally.Answer.{Answer}
use Rattle.stepping.specs.declared.tally.Answer.TheVariants.{Nothing}
use Rattle.stepping.specs.declared.tally.Line.{Line}
use Rattle.stepping.specs.declared.tally.Tally.{Tally}
use Rattle.terms.specs.Terms.{views}

module _ {B : Type 0} (asks : B → List Open) where
  -- the first of some messages are called, and their answers counted
  unfoldable pub AllCalled : List (Message (List ℕ)) → ℕ → Member B → Member B → Tally → Tally → Type 0
  AllCalled xs zero m n t u = (n ≡ m) × (u ≡ t)
  AllCalled xs (suc i) m n t u = (k : Member B) × (s : Tally) × (a : Answer) × AllCalled xs i m k t s × Called asks a k n (slice_index_or xs i Replayed) × (u ≡ added a s)

  -- these messages come out of the queue, which does nothing else, and then they are called
  pub record Drained (xs : List (Message (List ℕ))) (m n : Member B) (t u : Tally) : Type 0 where
    pub emptied : Member B
    pub others : QueueAlone m emptied
    pub called : AllCalled xs (length xs) emptied n (added Nothing t) u

  -- one step, where the list has so much room for what a drain takes out
  abbrev pub Stepped : (room : ℕ) → OneStep → Member B → Member B → Tally → Tally → Type 0
  Stepped room (Order o) m n t u = (a : Answer) × Carried asks a m n o × (u ≡ added a t)
  Stepped room (Drain c) m n t u = Drained (drained (min c room) (queue_of m.queue)).0 m n t u × (queue_of n.queue ≡ (drained (min c room) (queue_of m.queue)).1)

  -- the first steps of a stream, so many views later
  unfoldable pub Passed : (room by : ℕ) → List ℕ → ℕ → Member B → Member B → Tally → Tally → Type 0
  Passed room by bs zero m n t u = (n ≡ m) × (u ≡ t)
  Passed room by bs (suc i) m n t u = (k : Member B) × (r : Tally) × (s : OneStep) × Passed room by bs i m k t r × (step_of (step_bytes i bs) ≡ Ok s) × Stepped room (later_step by s) k n r u

  -- the first passes over all steps: the pass i, counted from 0, lies i spans later
  unfoldable pub Ran : (room span : ℕ) → List ℕ → ℕ → Member B → Member B → Tally → Tally → Type 0
  Ran room span bs zero m n t u = (n ≡ m) × (u ≡ t)
  Ran room span bs (suc i) m n t u = (k : Member B) × (r : Tally) × Ran room span bs i m k t r × Passed room (i * span % 2 ^ 64) bs (length bs / 24) k n r u

  -- a member at the start of a replay, as a header says, that no call finds too few places
  pub record Fresh (h : Header) (board : B) (m : Member B) : Type 0 where
    pub values : held m.resolver.calls.state ≡ fresh
    pub term_length : term m.resolver.calls.state ≡ views h.term_length
    pub epoch : epoch_of m.resolver.calls.state ≡ h.epoch
    pub seats : m.verifier.seats ≡ 4
    pub quorum : m.verifier.quorum ≡ 3
    pub board_is : m.board ≡ board
    pub no_effects : entries m.effects ≡ []
    pub nothing_waits : queue_of m.queue ≡ record { finalization = None; messages = [] }
    pub fit : fits m.resolver.calls.state ≡ true
    pub room : 256 ≤ places m.effects

  -- all passes, from a fresh member on, and the asks that are open then
  pub record Whole (h : Header) (bs : List ℕ) (board : B) (l : Line) : Type 0 where
    pub first : Member B
    pub last : Member B
    pub begins : Fresh h board first
    pub ran : Ran 65 h.span bs h.passes first last none_yet l.tally
    pub open_asks : l.open_asks ≡ length (asks last.board) % 2 ^ 64
