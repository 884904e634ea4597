-- The number and the layer of each fault.
use Rattle.refusals.specs.declared.Layer.TheVariants.{Queue}
use Rattle.refusals.specs.declared.Refusal.{Refusal}
use Rattle.queue.specs.declared.fault.Fault.{Fault}
use Rattle.queue.specs.declared.fault.Fault.TheVariants.{Full, TooFewPlaces}

abbrev pub refusal_of : Fault → Refusal
refusal_of Full = record { number = 12; layer = Queue }
refusal_of TooFewPlaces = record { number = 13; layer = Queue }
