-- A record behind one more byte.
use Rattle.std.specs.Prelude.{ℕ, List, [], ◌∷◌, Ok, Err, Result}
use Rattle.record.specs.Format.{reading}
use Rattle.record.specs.declared.certificate.Certificate.{Certificate}
use Rattle.record.specs.declared.fault.Fault.{Fault}
use Rattle.record.specs.declared.fault.Fault.TheVariants.{WrongLength}
use Rattle.state_checks.specs.declared.tagged.Tagged as tagged

abbrev pub with_tag : ℕ → Result Certificate Fault → Result tagged.Tagged Fault
with_tag t (Ok c) = Ok (record { tag = t; certificate = c })
with_tag t (Err f) = Err f

abbrev pub tagged_of : List ℕ → Result tagged.Tagged Fault
tagged_of [] = Err WrongLength
tagged_of (t ∷ bs) = with_tag t (reading bs)
