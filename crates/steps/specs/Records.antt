-- The records that steps name, and the messages that they make.
use Rattle.std.specs.Prelude.{ℕ, List, ◌∷◌, ◌++◌, replicate}
use Rattle.queue.specs.declared.message.Message.{Message}
use Rattle.queue.specs.declared.message.Message.TheVariants as message
use Rattle.record.specs.Certificates.{framed}
use Rattle.record.specs.declared.certificate.Proof.{Proof}
use Rattle.record.specs.declared.certificate.Proposal.{Proposal}
use Rattle.record.specs.declared.kind.Kind.{Kind}
use Rattle.steps.specs.declared.step.Call.{Call}
use Rattle.steps.specs.declared.step.Call.TheVariants.{Updated, Certified, Replayed, Resolve}

-- nothing else is said of what is proposed
abbrev pub proposal_at : (epoch view : ℕ) → Proposal
proposal_at e v = record { round = record { epoch = e; view = v }; parent = 0; payload = record { 0 = replicate 32 0 } }

-- three of four seats, as the mask 7 in eight bytes, and zeros
abbrev pub quorum_proof : Proof
quorum_proof = record { 0 = replicate 7 0 ++ (7 ∷ replicate 24 0) }

-- the bytes of the record of a kind and a view
abbrev pub record_of : (epoch : ℕ) → Kind → (view : ℕ) → List ℕ
record_of e k v = framed k (proposal_at e v) quorum_proof

-- the message that a call makes
abbrev pub message_of : (epoch : ℕ) → Call → Message (List ℕ)
message_of e (Updated k v) = message.Updated k v (record_of e k v)
message_of e (Certified b k v) = message.Certified k v b (record_of e k v)
message_of e Replayed = message.Replayed
message_of e (Resolve p v k t) = message.Resolve p v k t
