-- What a member answers to an order, and what the order changes.
use Rattle.std.specs.Prelude.{◌≡◌, ℕ, Bool, cond, List, length, Some, None, Option, Ok, Err, Result, MatchResult}
use Rattle.board.specs.Boards.{requested}
use Rattle.board.specs.declared.ask.Ask.{Ask}
use Rattle.board.specs.declared.open.Open.{Open}
use Rattle.effects.specs.Lists.{entries, places}
use Rattle.queue.specs.Pendings.{queue_of}
use Rattle.queue.specs.Queues.{offered, offer_answer}
use Rattle.queue.specs.declared.fault.Fault.{Fault as Full}
use Rattle.queue.specs.declared.message.Message.{Message}
use Rattle.queue.specs.declared.message.Message.TheVariants.{Updated, Certified, Resolve, Replayed}
use Rattle.record.specs.Certificates.{kind_in, proposal_in}
use Rattle.record.specs.Format.{reading}
use Rattle.record.specs.declared.certificate.Certificate.{Certificate}
use Rattle.resolver.specs.Calls.{answer_of, Taken, Judged, Ended, request_answer, If}
use Rattle.resolver.specs.Deliveries.{delivery_test, tested, delivery_answer, is_valid, if_valid, Nothing as NothingRecorded}
use Rattle.resolver.specs.declared.fault.Fault.{Fault}
use Rattle.resolver.specs.declared.outcome.Delivered.{Delivered}
use Rattle.state.specs.Answers.{Answer as StateAnswer, refused_if, too_few, if_read, evidence_answer, verdict_answer, marker_answer}
use Rattle.state.specs.Calls.{Unchanged}
use Rattle.state.specs.Serving.{served}
use Rattle.state.specs.Settled.{settled}
use Rattle.state.specs.States.{held, term, epoch_of, fits}
use Rattle.state.specs.declared.fault.Fault.TheVariants.{TooFewPlaces}
use Rattle.steps.specs.Records.{record_of, message_of}
use Rattle.steps.specs.Steps.{listed}
use Rattle.stepping.specs.declared.member.Member.{Member}
use Rattle.steps.specs.declared.step.Order.{Order}
use Rattle.steps.specs.declared.step.Order.TheVariants.{Call, Offer, Deliver, Settled, Produce}
use Rattle.stepping.specs.declared.tally.Answer as answer
use Rattle.stepping.specs.declared.tally.Answer.TheVariants.{Refused, Nothing, Done, Recorded as Recording, Served}
use Rattle.verifier.specs.Seats.{seats_accept}

abbrev pub view_in : Certificate → ℕ
view_in c = (proposal_in c).round.view

abbrev pub epoch_in : Certificate → ℕ
epoch_in c = (proposal_in c).round.epoch

-- a call that records something, where so many effects came of it
abbrev pub recorded_of : Result (Unit {0}) Fault → ℕ → answer.Answer
recorded_of (Ok _) n = Recording n
recorded_of (Err f) n = Refused

abbrev pub done_if : Bool → answer.Answer
done_if b = cond b Done Nothing

abbrev pub asked_of : Result Bool Fault → answer.Answer
asked_of (Ok b) = done_if b
asked_of (Err f) = Refused

abbrev pub brought_of : Result Delivered Fault → ℕ → answer.Answer
brought_of (Ok d) n = cond d.taken (Recording n) Nothing
brought_of (Err f) n = Refused

abbrev pub waiting_of : Result (Unit {0}) Full → answer.Answer
waiting_of (Ok _) = Done
waiting_of (Err f) = Refused

abbrev pub found_of : Option Certificate → answer.Answer
found_of None = Nothing
found_of (Some c) = Served (view_in c)

-- all but the queue is as it was
pub record QueueAlone {B : Type 0} (m n : Member B) : Type 0 where
  pub resolver : n.resolver ≡ m.resolver
  pub board : n.board ≡ m.board
  pub verifier : n.verifier ≡ m.verifier
  pub effects : n.effects ≡ m.effects

module _ {B : Type 0} (asks : B → List Open) (a : answer.Answer) (m n : Member B) where
  -- what only an offer or a drain changes
  pub record Fixed : Type 0 where
    pub verifier : n.verifier ≡ m.verifier
    pub queue : n.queue ≡ m.queue

  -- a refused call changes nothing
  pub record Same : Type 0 where
    pub state : Unchanged m.resolver.calls.state n.resolver.calls.state m.effects n.effects
    pub board : n.board ≡ m.board

  -- a call that records something: the resolver's own answer and outcome
  pub record Recorded (answer : StateAnswer) (Outcome : Type 0) : Type 0 where
    pub result : Result (Unit {0}) Fault
    pub is : result ≡ answer_of (refused_if (too_few (fits m.resolver.calls.state) (places m.effects)) TooFewPlaces answer)
    pub told : a ≡ recorded_of result (length (entries n.effects))
    pub outcome : MatchResult result (λ _. Outcome) (λ _. Same)
    pub fixed : Fixed

  -- a request: only the board may change
  pub record Requested (answer : Result Bool Fault) (os : List Open) : Type 0 where
    pub told : a ≡ asked_of answer
    pub outcome : MatchResult answer (λ b. If b (asks n.board ≡ os) (n.board ≡ m.board)) (λ _. n.board ≡ m.board)
    pub state : Unchanged m.resolver.calls.state n.resolver.calls.state m.effects n.effects
    pub fixed : Fixed

  -- a delivery: the resolver's own answer and outcome
  pub record Delivery (answer : Result Delivered Fault) (Outcome : Type 0) : Type 0 where
    pub told : a ≡ brought_of answer (length (entries n.effects))
    pub outcome : MatchResult answer (λ d. If d.taken Outcome (NothingRecorded m.resolver.calls.state n.resolver.calls.state m.effects n.effects × (n.board ≡ m.board))) (λ _. Same)
    pub fixed : Fixed

  -- an offer: the queue's own answer
  pub record Offered (x : Message (List ℕ)) : Type 0 where
    pub told : a ≡ waiting_of (offer_answer x (queue_of m.queue))
    pub queue : queue_of n.queue ≡ offered x (queue_of m.queue)
    pub others : QueueAlone m n

  -- a question that changes nothing
  pub record AskedOnly (answer : answer.Answer) : Type 0 where
    pub told : a ≡ answer
    pub same : n ≡ m

  -- which records pass for a view
  abbrev pub valid : ℕ → Certificate → Bool
  valid v = is_valid (term m.resolver.calls.state) kind_in view_in epoch_in (seats_accept m.verifier.seats m.verifier.quorum) (epoch_of m.resolver.calls.state) v

  abbrev pub Brought : ℕ → List Ask → List ℕ → Type 0
  Brought v qs bs = Delivery (tested (delivery_test (fits m.resolver.calls.state) (places m.effects) qs) (delivery_answer (term m.resolver.calls.state) kind_in qs v (valid v) (reading bs) (held m.resolver.calls.state))) ((c : Certificate) × (if_valid (valid v) (reading bs) ≡ Some c) × Taken m.resolver.calls.state n.resolver.calls.state m.effects n.effects (asks m.board) (asks n.board) (kind_in c) c)

  -- the call that a message asks for
  abbrev pub Called : Message (List ℕ) → Type 0
  Called (Updated k v bs) = Recorded (if_read (reading bs) (λ c. evidence_answer (term m.resolver.calls.state) (kind_in c) c (held m.resolver.calls.state))) ((c : Certificate) × (reading bs ≡ Ok c) × Taken m.resolver.calls.state n.resolver.calls.state m.effects n.effects (asks m.board) (asks n.board) (kind_in c) c)
  Called (Certified k v b bs) = Recorded (if_read (reading bs) (λ c. verdict_answer (term m.resolver.calls.state) b (kind_in c) (view_in c) (held m.resolver.calls.state))) ((c : Certificate) × (reading bs ≡ Ok c) × Judged m.resolver.calls.state n.resolver.calls.state m.effects n.effects (asks m.board) (asks n.board) b c)
  Called Replayed = Recorded (marker_answer (term m.resolver.calls.state) (held m.resolver.calls.state)) (Ended m.resolver.calls.state n.resolver.calls.state m.effects n.effects (asks m.board) (asks n.board))
  Called (Resolve p v k t) = Requested (request_answer (term m.resolver.calls.state) p v k (asks m.board) (held m.resolver.calls.state)) (requested v k t (asks m.board))

  -- records are of the member's epoch
  abbrev pub Carried : Order → Type 0
  Carried (Call c) = Called (message_of (epoch_of m.resolver.calls.state) c)
  Carried (Offer c) = Offered (message_of (epoch_of m.resolver.calls.state) c)
  Carried (Deliver v k u qs) = Brought v (listed qs) (record_of (epoch_of m.resolver.calls.state) k u)
  Carried (Settled v k) = AskedOnly (done_if (settled (term m.resolver.calls.state) k v (held m.resolver.calls.state)))
  Carried (Produce v) = AskedOnly (found_of (served (term m.resolver.calls.state) v (held m.resolver.calls.state)))
