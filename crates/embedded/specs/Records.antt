-- What is told of a record's bytes.
use Rattle.std.specs.Prelude.{ℕ, List, Ok, Err, Result}
use Rattle.kept.specs.Keeping.{kept}
use Rattle.kept.specs.declared.row.Kept.{Kept}
use Rattle.record.specs.Certificates.{kind_in, proposal_in, framed}
use Rattle.record.specs.Faults.{refusal_of}
use Rattle.record.specs.Kinds.{byte_of, kind_of}
use Rattle.record.specs.declared.certificate.Certificate.{Certificate}
use Rattle.record.specs.declared.certificate.Proof.{Proof}
use Rattle.record.specs.declared.certificate.Proposal.{Proposal}
use Rattle.record.specs.declared.fault.Fault.{Fault}
use Rattle.record.specs.declared.kind.Kind.{Kind}
use Rattle.refusals.specs.declared.Refusal.{Refusal}
use Rattle.embedded.specs.declared.told.Read.{Read}
use Rattle.embedded.specs.declared.told.Told.{Told}
use Rattle.embedded.specs.Told.{layer_number, fine, refused}

abbrev pub said : Certificate → Read
said c = record { refusal = 0; layer = 0; kind = byte_of (kind_in c); epoch = (proposal_in c).round.epoch; view = (proposal_in c).round.view; parent = (proposal_in c).parent }

abbrev pub unread : Refusal → Read
unread r = record { refusal = r.number; layer = layer_number r.layer; kind = 0; epoch = 0; view = 0; parent = 0 }

abbrev pub read_as : Result Certificate Fault → Read
read_as (Ok c) = said c
read_as (Err f) = unread (refusal_of f)

-- the fields that a host gives
abbrev pub proposed : ℕ → ℕ → ℕ → List ℕ → Proposal
proposed e v p d = record { round = record { epoch = e; view = v }; parent = p; payload = record { 0 = d } }

abbrev pub proof_of : List ℕ → Proof
proof_of s = record { 0 = s }

abbrev pub if_kind : Result Kind Fault → Proposal → Proof → Kept → Kept
if_kind (Ok k) p s before = kept (framed k p s)
if_kind (Err f) p s before = before

abbrev pub told_kind : Result Kind Fault → Told
told_kind (Ok k) = fine 0
told_kind (Err f) = refused (refusal_of f)

-- by the number of a kind, which is the first byte of its records
abbrev pub frame_told : ℕ → Told
frame_told k = told_kind (kind_of k)

abbrev pub framed_as : ℕ → Proposal → Proof → Kept → Kept
framed_as k p s before = if_kind (kind_of k) p s before
