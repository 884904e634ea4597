use Rattle.std.proofs.Common.{◌≡◌, false}
use Rattle.record.specs.Certificates.{written}
use Rattle.verifier.specs.Rolls.{rolled}
use Rattle.verifier.proofs.roll.RollVerifierVerifierCertificate.accepts.Given as goal

abbrev pub invariant-loop-i : goal.invariant-loop-i
invariant-loop-i l = rolled (written l.certificate) l.i l.self.roll.now ≡ false
