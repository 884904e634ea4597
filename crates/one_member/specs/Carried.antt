-- What a member answers to an order, and what the order changes.
use Rattle.std.specs.Prelude.{◌≡◌, ℕ, Bool, List, Some, Ok, Err, Result, MatchResult}
use Rattle.answers.specs.Answered.{done_of, yes_no, asked_of, judged_of, found_of}
use Rattle.answers.specs.Texts.{view_in}
use Rattle.answers.specs.declared.answered.Answered as answered
use Rattle.answers.specs.declared.answered.Answered.TheVariants.{Refused, Open as Listed, Told, Waiting}
use Rattle.board.specs.Boards.{requested}
use Rattle.board.specs.declared.open.Open.{Open}
use Rattle.effects.specs.Lists.{places}
use Rattle.message_text.specs.Offers.{message_of, answer_to, offered_by}
use Rattle.orders.specs.Orders.{Calling, update, judge, end, wish, Meant, call, offer, bring, ask, serve, list, tell}
use Rattle.queue.specs.Pendings.{queue_of}
use Rattle.record.specs.Certificates.{kind_in, proposal_in}
use Rattle.record.specs.Format.{reading}
use Rattle.record.specs.declared.certificate.Certificate.{Certificate}
use Rattle.one_member.specs.declared.member.Member.{Member}
use Rattle.refusals.specs.declared.Refusal.{Refusal}
use Rattle.resolver.specs.Calls.{answer_of, Taken, Judged, Ended, request_answer, If}
use Rattle.resolver.specs.Deliveries.{delivery_test, tested, delivery_answer, is_valid, if_valid, Nothing}
use Rattle.resolver.specs.declared.fault.Fault.{Fault}
use Rattle.resolver.specs.declared.outcome.Delivered.{Delivered}
use Rattle.state.specs.Answers.{Answer, refused_if, too_few, if_read, evidence_answer, verdict_answer, marker_answer}
use Rattle.state.specs.Calls.{Unchanged}
use Rattle.state.specs.Serving.{served}
use Rattle.state.specs.Settled.{settled}
use Rattle.state.specs.States.{held, term, epoch_of, fits}
use Rattle.state.specs.declared.fault.Fault.TheVariants.{TooFewPlaces}
use Rattle.verifier.specs.Seats.{seats_accept}

abbrev pub waiting_of : Result (Unit {0}) Refusal → answered.Answered
waiting_of (Ok _) = Waiting
waiting_of (Err f) = Refused f

abbrev pub epoch_in : Certificate → ℕ
epoch_in c = (proposal_in c).round.epoch

-- all but the queue is as it was
pub record QueueAlone {B : Type 0} (m n : Member B) : Type 0 where
  pub resolver : n.resolver ≡ m.resolver
  pub board : n.board ≡ m.board
  pub verifier : n.verifier ≡ m.verifier
  pub effects : n.effects ≡ m.effects
  pub seats : n.seats ≡ m.seats

module _ {B : Type 0} (asks : B → List Open) (a : answered.Answered) (m n : Member B) where
  -- what only an offer or a drain changes
  pub record Fixed : Type 0 where
    pub seats : n.seats ≡ m.seats
    pub verifier : n.verifier ≡ m.verifier
    pub queue : n.queue ≡ m.queue

  -- a refused call changes nothing
  pub record Same : Type 0 where
    pub state : Unchanged m.resolver.calls.state n.resolver.calls.state m.effects n.effects
    pub board : n.board ≡ m.board

  -- a call that records something: the resolver's own answer and outcome
  pub record Recorded (answer : Answer) (Outcome : Type 0) : Type 0 where
    pub result : Result (Unit {0}) Fault
    pub is : result ≡ answer_of (refused_if (too_few (fits m.resolver.calls.state) (places m.effects)) TooFewPlaces answer)
    pub told : a ≡ done_of result
    pub outcome : MatchResult result (λ _. Outcome) (λ _. Same)
    pub fixed : Fixed

  -- a request: only the board may change
  pub record Requested (answer : Result Bool Fault) (os : List Open) : Type 0 where
    pub told : a ≡ asked_of answer
    pub outcome : MatchResult answer (λ b. If b (asks n.board ≡ os) (n.board ≡ m.board)) (λ _. n.board ≡ m.board)
    pub state : Unchanged m.resolver.calls.state n.resolver.calls.state m.effects n.effects
    pub fixed : Fixed

  -- a delivery: the resolver's own answer and outcome
  pub record Delivery (answer : Result Delivered Fault) (Outcome : Type 0) : Type 0 where
    pub told : a ≡ judged_of answer
    pub outcome : MatchResult answer (λ d. If d.taken Outcome (Nothing m.resolver.calls.state n.resolver.calls.state m.effects n.effects × (n.board ≡ m.board))) (λ _. Same)
    pub fixed : Fixed

  -- an offer: the queue's own answer, after the record is read
  pub record Offered (c : Calling) : Type 0 where
    pub told : a ≡ waiting_of (answer_to (message_of c) (queue_of m.queue))
    pub queue : queue_of n.queue ≡ offered_by (message_of c) (queue_of m.queue)
    pub others : QueueAlone m n

  -- a question that changes nothing
  pub record AskedOnly (answer : answered.Answered) : Type 0 where
    pub told : a ≡ answer
    pub same : n ≡ m

  -- which records pass for a view
  abbrev pub valid : ℕ → Certificate → Bool
  valid v = is_valid (term m.resolver.calls.state) kind_in view_in epoch_in (seats_accept m.verifier.seats m.verifier.quorum) (epoch_of m.resolver.calls.state) v

  abbrev pub Called : Calling → Type 0
  Called (update bs) = Recorded (if_read (reading bs) (λ c. evidence_answer (term m.resolver.calls.state) (kind_in c) c (held m.resolver.calls.state))) ((c : Certificate) × (reading bs ≡ Ok c) × Taken m.resolver.calls.state n.resolver.calls.state m.effects n.effects (asks m.board) (asks n.board) (kind_in c) c)
  Called (judge b bs) = Recorded (if_read (reading bs) (λ c. verdict_answer (term m.resolver.calls.state) b (kind_in c) (view_in c) (held m.resolver.calls.state))) ((c : Certificate) × (reading bs ≡ Ok c) × Judged m.resolver.calls.state n.resolver.calls.state m.effects n.effects (asks m.board) (asks n.board) b c)
  Called end = Recorded (marker_answer (term m.resolver.calls.state) (held m.resolver.calls.state)) (Ended m.resolver.calls.state n.resolver.calls.state m.effects n.effects (asks m.board) (asks n.board))
  Called (wish p v k t) = Requested (request_answer (term m.resolver.calls.state) p v k (asks m.board) (held m.resolver.calls.state)) (requested v k t (asks m.board))

  abbrev pub Carried : Meant → Type 0
  Carried (call c) = Called c
  Carried (offer c) = Offered c
  Carried (bring v qs bs) = Delivery (tested (delivery_test (fits m.resolver.calls.state) (places m.effects) qs) (delivery_answer (term m.resolver.calls.state) kind_in qs v (valid v) (reading bs) (held m.resolver.calls.state))) ((c : Certificate) × (if_valid (valid v) (reading bs) ≡ Some c) × Taken m.resolver.calls.state n.resolver.calls.state m.effects n.effects (asks m.board) (asks n.board) (kind_in c) c)
  Carried (ask v k) = AskedOnly (yes_no (settled (term m.resolver.calls.state) k v (held m.resolver.calls.state)))
  Carried (serve v) = AskedOnly (found_of (served (term m.resolver.calls.state) v (held m.resolver.calls.state)))
  Carried list = AskedOnly Listed
  Carried tell = AskedOnly Told
