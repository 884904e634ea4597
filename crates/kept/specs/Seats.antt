-- Which kept records name a quorum of seats.
use Rattle.std.specs.Prelude.{ℕ, Bool, false, Ok, Err, Result}
use Rattle.record.specs.Format.{reading}
use Rattle.record.specs.declared.certificate.Certificate.{Certificate}
use Rattle.record.specs.declared.fault.Fault.{Fault}
use Rattle.verifier.specs.Seats.{seats_accept}
use Rattle.kept.specs.declared.row.Kept.{Kept}

abbrev pub if_read : ℕ → ℕ → Result Certificate Fault → Bool
if_read n q (Ok c) = seats_accept n q c
if_read n q (Err f) = false

abbrev pub kept_accepted : ℕ → ℕ → Kept → Bool
kept_accepted n q k = if_read n q (reading k.bytes)
