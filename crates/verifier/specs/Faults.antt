-- The number and the layer of each fault.
use Rattle.refusals.specs.declared.Layer.TheVariants.{Verifier}
use Rattle.refusals.specs.declared.Refusal.{Refusal}
use Rattle.verifier.specs.declared.fault.Fault.{Fault}
use Rattle.verifier.specs.declared.fault.Fault.TheVariants.{NoQuorum, BrokenRoll}

abbrev pub refusal_of : Fault → Refusal
refusal_of NoQuorum = record { number = 15; layer = Verifier }
refusal_of BrokenRoll = record { number = 1; layer = Verifier }
