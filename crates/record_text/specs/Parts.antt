-- The bytes of a record's text.
use Rattle.std.specs.Prelude.{ℕ, cond, List, ◌++◌, replicate, Ok, codes, Result}
use Rattle.std.specs.Option.{unwrap_or}
use Rattle.std.specs.Str.{bytes_eq}
use Rattle.record.specs.Certificates.{framed}
use Rattle.record.specs.Numbers.{bytes_of}
use Rattle.record.specs.declared.certificate.Proof.{Proof}
use Rattle.record.specs.declared.certificate.Proposal.{Proposal}
use Rattle.record_text.specs.Options.{kind_named, options_of}
use Rattle.record_text.specs.declared.options.Options.{Options}
use Rattle.record_text.specs.declared.parts.Defaults.{Defaults}
use Rattle.words.specs.Hex.{hex_of}
use Rattle.words.specs.Lines.{word_at, after_words, ended}
use Rattle.words.specs.Numerals.{number_of}
use Rattle.words.specs.Problems.{bind}
use Rattle.words.specs.declared.problem.Problem.{Problem}

abbrev pub proposal_by : ℕ → Options → Defaults → Proposal
proposal_by v o d = record { round = record { epoch = unwrap_or o.epoch d.epoch; view = v }; parent = unwrap_or o.parent 0; payload = record { 0 = replicate 32 0 } }

-- a mask of seats, and zeros
unfoldable pub seats_proof : ℕ → Proof
seats_proof mask = record { 0 = bytes_of 8 mask ++ replicate 24 0 }

abbrev pub proof_by : Options → Defaults → Proof
proof_by o d = seats_proof (unwrap_or o.seats d.seats)

-- `KIND VIEW` and the options
unfoldable pub parts_of : Defaults → List ℕ → Result (List ℕ) Problem
parts_of d bs =
    bind (kind_named (word_at 0 bs)) (λ k.
    bind (number_of (word_at 1 bs)) (λ v.
    bind (options_of (after_words 2 bs)) (λ o. Ok (framed k (proposal_by v o d) (proof_by o d)))))

-- `HEX`
unfoldable pub hex_record : List ℕ → Result (List ℕ) Problem
hex_record bs = bind (hex_of (word_at 0 bs)) (λ b. bind (ended (after_words 1 bs)) (λ _. Ok b))

-- the bytes of the record that a text writes
unfoldable pub record_of : Defaults → List ℕ → Result (List ℕ) Problem
record_of d bs = cond (bytes_eq (word_at 0 bs) (codes "bytes")) (hex_record (after_words 1 bs)) (parts_of d bs)
