-- The format of a record, and what is read from bytes.
use Rattle.std.specs.Prelude.{◌≡◌, ℕ, Bool, true, cond, ◌&&◌, List, length, drop, is_ok, Ok, Err, Result, ◌==◌, slice_index, slice_index_or}
use Rattle.record.specs.Certificates.{kind_in, proposal_in, proof_in}
use Rattle.record.specs.Kinds.{kind_of}
use Rattle.record.specs.Numbers.{part, number, zeros}
use Rattle.record.specs.declared.certificate.Certificate.{Certificate}
use Rattle.record.specs.declared.certificate.Certificate.TheVariants.{Notarization, Nullification, Finalization}
use Rattle.record.specs.declared.certificate.Proof.{Proof}
use Rattle.record.specs.declared.certificate.Proposal.{Proposal}
use Rattle.record.specs.declared.certificate.Round.{Round}
use Rattle.record.specs.declared.fault.Fault.{Fault}
use Rattle.record.specs.declared.fault.Fault.TheVariants.{WrongLength, ReservedNotZero, NullificationNotBlank}
use Rattle.record.specs.declared.kind.Kind.{Kind}
use Rattle.record.specs.declared.kind.Kind.TheVariants as kind

-- the fields, in the bytes after the first eight
abbrev pub round_at : List ℕ → Round
round_at rest = record { epoch = number (part 0 8 rest); view = number (part 8 8 rest) }

abbrev pub proposal_at : List ℕ → Proposal
proposal_at rest = record { round = round_at rest; parent = number (part 16 8 rest); payload = record { 0 = part 24 32 rest } }

abbrev pub proof_at : List ℕ → Proof
proof_at rest = record { 0 = part 56 32 rest }

-- whether a proposal has no parent and no payload
abbrev pub blank : Proposal → Bool
blank p = p.parent == 0 && zeros p.payload.0

-- a nullification has nothing proposed
abbrev pub admits : Kind → Proposal → Bool
admits kind.Notarization p = true
admits kind.Nullification p = blank p
admits kind.Finalization p = true

abbrev pub certificate : Kind → Proposal → Proof → Certificate
certificate kind.Notarization p s = Notarization p s
certificate kind.Nullification p s = Nullification p.round s
certificate kind.Finalization p s = Finalization p s

-- what the bytes after the first eight hold of a kind
abbrev pub body_read : Kind → List ℕ → Result Certificate Fault
body_read k rest = cond (admits k (proposal_at rest)) (Ok (certificate k (proposal_at rest) (proof_at rest))) (Err NullificationNotBlank)

-- the fault of bytes where seven zeros do not follow the kind
abbrev pub head_fault : Result Kind Fault → Fault
head_fault (Ok k) = ReservedNotZero
head_fault (Err f) = f

-- what follows a kind and seven zeros, if it is a kind
abbrev pub head_read : Result Kind Fault → List ℕ → Result Certificate Fault
head_read (Ok k) rest = body_read k rest
head_read (Err f) rest = Err f

-- what is read from bytes: the first test that fails, or the certificate
unfoldable pub reading : List ℕ → Result Certificate Fault
reading bs = cond (length bs == 96) (cond (zeros (part 1 7 bs)) (head_read (kind_of (slice_index bs 0)) (drop 8 bs)) (Err (head_fault (kind_of (slice_index bs 0))))) (Err WrongLength)

-- bytes that are a record, by their places in it
pub record Formed (bs : List ℕ) : Type 0 where
  pub long : length bs ≡ 96
  pub known : is_ok (kind_of (slice_index bs 0)) ≡ true
  pub reserved : zeros (part 1 7 bs) ≡ true
  pub blank : slice_index_or bs 0 0 ≡ 2 → (number (part 24 8 bs) ≡ 0) × (zeros (part 32 32 bs) ≡ true)

-- each field of the certificate stands at its place in the bytes
pub record Placed (bs : List ℕ) (c : Certificate) : Type 0 where
  pub kind : kind_of (slice_index bs 0) ≡ Ok (kind_in c)
  pub epoch : (proposal_in c).round.epoch ≡ number (part 8 8 bs)
  pub view : (proposal_in c).round.view ≡ number (part 16 8 bs)
  pub parent : (proposal_in c).parent ≡ number (part 24 8 bs)
  pub payload : (proposal_in c).payload.0 ≡ part 32 32 bs
  pub proof : (proof_in c).0 ≡ part 64 32 bs
