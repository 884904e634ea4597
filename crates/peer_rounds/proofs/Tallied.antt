-- What is counted at first.
use Rattle.std.proofs.Common.{◌≡◌, ℕ, ap, ◌∙◌}
use Rattle.peer_rounds.specs.Tallies.{no_tally}
use Rattle.peer_rounds.specs.declared.tally.Tally.{Tally}

tally : ℕ → ℕ → ℕ → Tally
tally a r s = record { asks = a; records = r; settling = s }

pub nothing_counted : (t : Tally) → t.asks ≡ 0 × (t.records ≡ 0 × t.settling ≡ 0) → t ≡ no_tally
unfolding tally
nothing_counted t e = ap (λ a. tally a t.records t.settling) e.0 ∙ (ap (λ r. tally 0 r t.settling) e.1.0 ∙ ap (λ s. tally 0 0 s) e.1.1)
