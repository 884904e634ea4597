-- The number and the layer of each fault.
use Rattle.refusals.specs.declared.Layer.TheVariants.{Terms}
use Rattle.refusals.specs.declared.Refusal.{Refusal}
use Rattle.terms.specs.declared.fault.Fault.{Fault}
use Rattle.terms.specs.declared.fault.Fault.TheVariants.{ZeroLength, ViewTooHigh}

abbrev pub refusal_of : Fault → Refusal
refusal_of ZeroLength = record { number = 9; layer = Terms }
refusal_of ViewTooHigh = record { number = 5; layer = Terms }
