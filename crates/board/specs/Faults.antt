-- The number and the layer of each fault.
use Rattle.refusals.specs.declared.Layer.TheVariants.{Board}
use Rattle.refusals.specs.declared.Refusal.{Refusal}
use Rattle.board.specs.declared.fault.Fault.{Fault}
use Rattle.board.specs.declared.fault.Fault.TheVariants.{TooManyAsks, TooFewPlaces}

abbrev pub refusal_of : Fault → Refusal
refusal_of TooManyAsks = record { number = 11; layer = Board }
refusal_of TooFewPlaces = record { number = 13; layer = Board }
