-- The records of a roll, one after the other.
use Rattle.std.specs.Prelude.{ℕ, zero, suc, ◌*◌, ◌/◌, Bool, false, ◌||◌, List, length}
use Rattle.std.specs.Str.{bytes_eq}
use Rattle.record.specs.Certificates.{written}
use Rattle.record.specs.Numbers.{part}
use Rattle.record.specs.declared.certificate.Certificate.{Certificate}

-- whether these bytes are one of the first n records
unfoldable pub rolled : List ℕ → ℕ → List ℕ → Bool
rolled bs zero roll = false
rolled bs (suc k) roll = bytes_eq (part (96 * k) 96 roll) bs || rolled bs k roll

abbrev pub roll_accepts : List ℕ → Certificate → Bool
roll_accepts roll c = rolled (written c) (length roll / 96) roll
