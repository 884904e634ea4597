-- The records of the cases: certificates of epoch 7 with blank digests.
use Rattle.std.specs.Prelude.{ℕ, replicate}
use Rattle.record.specs.Certificates.{proposal_in}
use Rattle.record.specs.declared.certificate.Certificate.{Certificate}
use Rattle.record.specs.declared.certificate.Certificate.TheVariants.{Notarization, Nullification, Finalization}
use Rattle.record.specs.declared.certificate.Proof.{Proof}
use Rattle.record.specs.declared.certificate.Proposal.{Proposal}
use Rattle.record.specs.declared.certificate.Round.{Round}

abbrev round_at : ℕ → Round
round_at v = record { epoch = 7; view = v }

abbrev proposal_at : ℕ → Proposal
proposal_at v = record { round = round_at v; parent = 0; payload = record { 0 = replicate 32 0 } }

abbrev blank : Proof
blank = record { 0 = replicate 32 0 }

abbrev pub notarization : ℕ → Certificate
notarization v = Notarization (proposal_at v) blank

abbrev pub nullification : ℕ → Certificate
nullification v = Nullification (round_at v) blank

abbrev pub finalization : ℕ → Certificate
finalization v = Finalization (proposal_at v) blank

abbrev pub view_in : Certificate → ℕ
view_in c = (proposal_in c).round.view
