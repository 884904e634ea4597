-- The number and the layer of each fault.
use Rattle.refusals.specs.declared.Layer.TheVariants.{State}
use Rattle.refusals.specs.declared.Refusal.{Refusal}
use Rattle.record.specs.Faults as records
use Rattle.terms.specs.Faults as lengths
use Rattle.state.specs.declared.fault.Fault.{Fault}
use Rattle.state.specs.declared.fault.Fault.TheVariants.{Terms, Record, TooFewPlaces, NotANotarization, ViewTooHigh, TableFull, TooManyGaps}

-- a fault of a lower layer keeps its number and its layer
abbrev pub refusal_of : Fault → Refusal
refusal_of (Terms f) = lengths.refusal_of f
refusal_of (Record f) = records.refusal_of f
refusal_of TooFewPlaces = record { number = 13; layer = State }
refusal_of NotANotarization = record { number = 8; layer = State }
refusal_of ViewTooHigh = record { number = 5; layer = State }
refusal_of TableFull = record { number = 6; layer = State }
refusal_of TooManyGaps = record { number = 7; layer = State }
