-- The message that a call is offered as, and the call that a message stands for.
use Rattle.std.specs.Prelude.{ℕ, List, Ok, Err, Result}
use Rattle.orders.specs.Orders.{Calling, update, judge, end, wish}
use Rattle.queue.specs.Faults.{refusal_of as refused_by}
use Rattle.queue.specs.Queues.{Queue, offered, offer_answer}
use Rattle.queue.specs.declared.fault.Fault.{Fault as Full}
use Rattle.queue.specs.declared.message.Message.{Message}
use Rattle.queue.specs.declared.message.Message.TheVariants.{Updated, Certified, Resolve, Replayed}
use Rattle.record.specs.Certificates.{header_of}
use Rattle.record.specs.Faults.{refusal_of}
use Rattle.record.specs.Format.{reading}
use Rattle.record.specs.declared.certificate.Certificate.{Certificate}
use Rattle.record.specs.declared.certificate.Header.{Header}
use Rattle.record.specs.declared.fault.Fault.{Fault}
use Rattle.refusals.specs.declared.Refusal.{Refusal}

-- what is made of a record's header, where its bytes can be read
abbrev pub filed_by : {X : Type 0} → Result Certificate Fault → (Header → X) → Result X Refusal
filed_by (Ok c) f = Ok (f (header_of c))
filed_by (Err f) g = Err (refusal_of f)

abbrev pub filed : List ℕ → Result (Header × List ℕ) Refusal
filed bs = filed_by (reading bs) (λ h. (h, bs))

abbrev pub message_of : Calling → Result (Message (List ℕ)) Refusal
message_of (update bs) = filed_by (reading bs) (λ h. Updated h.kind h.view bs)
message_of (judge b bs) = filed_by (reading bs) (λ h. Certified h.kind h.view b bs)
message_of end = Ok Replayed
message_of (wish p v k t) = Ok (Resolve p v k t)

-- the call that a message was offered for
abbrev pub call_of : Message (List ℕ) → Calling
call_of (Updated k v bs) = update bs
call_of (Certified k v b bs) = judge b bs
call_of (Resolve p v k t) = wish p v k t
call_of Replayed = end

abbrev pub told : Result (Unit {0}) Full → Result (Unit {0}) Refusal
told (Ok u) = Ok u
told (Err f) = Err (refused_by f)

-- the queue's answer and what it does, where there is a message to offer
abbrev pub answer_to : Result (Message (List ℕ)) Refusal → Queue (List ℕ) → Result (Unit {0}) Refusal
answer_to (Ok m) q = told (offer_answer m q)
answer_to (Err f) q = Err f

abbrev pub offered_by : Result (Message (List ℕ)) Refusal → Queue (List ℕ) → Queue (List ℕ)
offered_by (Ok m) q = offered m q
offered_by (Err f) q = q
