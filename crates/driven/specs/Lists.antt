-- Effects in numbers.
use Rattle.std.specs.Prelude.{ℕ, List, map, length}
use Rattle.asked.specs.Rows.{over}
use Rattle.effects.specs.declared.effect.Effect.{Effect}
use Rattle.effects.specs.declared.effect.Effect.TheVariants.{Fetch, Settled, Finalized, Raised}
use Rattle.effects.specs.declared.effect.FetchReason.{FetchReason}
use Rattle.effects.specs.declared.effect.FetchReason.TheVariants.{MissingNullification, CertificationFailed}
use Rattle.effects.specs.declared.effect.Kind.{Kind}
use Rattle.effects.specs.declared.effect.Kind.TheVariants.{Nullification, Notarization}
use Rattle.driven.specs.declared.listed.Did.{Did}
use Rattle.driven.specs.declared.listed.Listed.{Listed}

abbrev pub kind_number : Kind → ℕ
kind_number Nullification = 1
kind_number Notarization = 2

abbrev pub reason_number : FetchReason → ℕ
reason_number MissingNullification = 1
reason_number CertificationFailed = 2

abbrev pub row_of : Effect → Did
row_of (Fetch v c r) = record { what = 1; of = reason_number r; view = v; other = c }
row_of (Settled k a b) = record { what = 2; of = kind_number k; view = a; other = b }
row_of (Finalized v) = record { what = 3; of = 0; view = v; other = 0 }
row_of (Raised v) = record { what = 4; of = 0; view = v; other = 0 }

abbrev pub listed_as : List Effect → Listed → Listed
listed_as fs l = record { count = length fs; effects = over (map row_of fs) l.effects }
