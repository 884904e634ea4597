-- The byte and the name of each kind.
use Rattle.std.specs.Prelude.{ℕ, cond, List, Ok, Err, codes, Result, ◌==◌}
use Rattle.record.specs.declared.fault.Fault.{Fault}
use Rattle.record.specs.declared.fault.Fault.TheVariants.{UnknownKind}
use Rattle.record.specs.declared.kind.Kind.{Kind}
use Rattle.record.specs.declared.kind.Kind.TheVariants.{Notarization, Nullification, Finalization}

abbrev pub kind_of : ℕ → Result Kind Fault
kind_of b = cond (b == 1) (Ok Notarization) (cond (b == 2) (Ok Nullification) (cond (b == 3) (Ok Finalization) (Err UnknownKind)))

abbrev pub byte_of : Kind → ℕ
byte_of Notarization = 1
byte_of Nullification = 2
byte_of Finalization = 3

abbrev pub name_of : Kind → List ℕ
name_of Notarization = codes "notarization"
name_of Nullification = codes "nullification"
name_of Finalization = codes "finalization"
