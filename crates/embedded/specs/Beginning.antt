-- What a fresh member is made of.
use Rattle.std.specs.Prelude.{ℕ, false, cond, ◌==◌}
use Rattle.terms.specs.Faults as lengths
use Rattle.terms.specs.declared.fault.Fault.TheVariants.{ZeroLength}
use Rattle.verifier.specs.Faults as verifiers
use Rattle.verifier.specs.Seats.{allowed}
use Rattle.verifier.specs.declared.fault.Fault.TheVariants.{NoQuorum}
use Rattle.driven.specs.declared.member.Member.{Member}
use Rattle.embedded.specs.Answers.{done, refusing}
use Rattle.embedded.specs.declared.answer.Answer.{Answer}

-- the term length first, then the seats
abbrev pub begin_told : ℕ → ℕ → ℕ → Answer
begin_told L n q = cond (L == 0) (refusing (lengths.refusal_of ZeroLength)) (cond (allowed n q) (done 0 false) (refusing (verifiers.refusal_of NoQuorum)))

-- nothing recorded, at the start of a replay
abbrev pub begun : ℕ → ℕ → ℕ → ℕ → Member → Member
begun L e n q m = record { head = record { term_length = L; seats = n; quorum = q; replaying = 1; epoch = e; current_view = 0; floor = 0; cursor = 0; finalization_count = 0; nullification_count = 0; pending_count = 0; certified_count = 0; failed_count = 0; ask_count = 0 }; rows = m.rows; asks = m.asks }

abbrev pub began : ℕ → ℕ → ℕ → ℕ → Member → Member
began L e n q m = cond (L == 0) m (cond (allowed n q) (begun L e n q m) m)
