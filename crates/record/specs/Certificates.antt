-- What a certificate says, and the bytes that it is written as.
use Rattle.std.specs.Prelude.{◌≡◌, ℕ, ◌^◌, ◌<◌, List, ◌∷◌, ◌++◌, length, replicate}
use Rattle.record.specs.Kinds.{byte_of}
use Rattle.record.specs.Numbers.{bytes_of}
use Rattle.record.specs.declared.certificate.Certificate.{Certificate}
use Rattle.record.specs.declared.certificate.Certificate.TheVariants.{Notarization, Nullification, Finalization}
use Rattle.record.specs.declared.certificate.Header.{Header}
use Rattle.record.specs.declared.certificate.Proof.{Proof}
use Rattle.record.specs.declared.certificate.Proposal.{Proposal}
use Rattle.record.specs.declared.certificate.Round.{Round}
use Rattle.record.specs.declared.kind.Kind.{Kind}
use Rattle.record.specs.declared.kind.Kind.TheVariants as kind

-- a nullification is written as one of no payload on top of view 0
abbrev pub unproposed : Round → Proposal
unproposed r = record { round = r; parent = 0; payload = record { 0 = replicate 32 0 } }

abbrev pub kind_in : Certificate → Kind
kind_in (Notarization p s) = kind.Notarization
kind_in (Nullification r s) = kind.Nullification
kind_in (Finalization p s) = kind.Finalization

abbrev pub proposal_in : Certificate → Proposal
proposal_in (Notarization p s) = p
proposal_in (Nullification r s) = unproposed r
proposal_in (Finalization p s) = p

abbrev pub proof_in : Certificate → Proof
proof_in (Notarization p s) = s
proof_in (Nullification r s) = s
proof_in (Finalization p s) = s

abbrev pub header_of : Certificate → Header
header_of c = record { kind = kind_in c; epoch = (proposal_in c).round.epoch; view = (proposal_in c).round.view }

-- what the types promise: numbers of 64 bits, and blocks of 32 bytes
pub record Sized (p : Proposal) (s : Proof) : Type 0 where
  pub epoch : p.round.epoch < 2 ^ 64
  pub view : p.round.view < 2 ^ 64
  pub parent : p.parent < 2 ^ 64
  pub payload : length p.payload.0 ≡ 32
  pub proof : length s.0 ≡ 32

-- a record: the kind, seven zeros, and the fields one after the other
unfoldable pub framed : Kind → Proposal → Proof → List ℕ
framed k p s = byte_of k ∷ (replicate 7 0 ++ (bytes_of 8 p.round.epoch ++ (bytes_of 8 p.round.view ++ (bytes_of 8 p.parent ++ (p.payload.0 ++ s.0)))))

unfoldable pub written : Certificate → List ℕ
written c = framed (kind_in c) (proposal_in c) (proof_in c)
