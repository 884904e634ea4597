-- The number and the layer of each fault.
use Rattle.refusals.specs.declared.Layer.TheVariants.{Record}
use Rattle.refusals.specs.declared.Refusal.{Refusal}
use Rattle.record.specs.declared.fault.Fault.{Fault}
use Rattle.record.specs.declared.fault.Fault.TheVariants.{WrongLength, UnknownKind, ReservedNotZero, NullificationNotBlank}

abbrev pub refusal_of : Fault → Refusal
refusal_of WrongLength = record { number = 1; layer = Record }
refusal_of UnknownKind = record { number = 2; layer = Record }
refusal_of ReservedNotZero = record { number = 3; layer = Record }
refusal_of NullificationNotBlank = record { number = 4; layer = Record }
