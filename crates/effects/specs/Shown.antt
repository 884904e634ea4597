-- The words of an effect.
use Rattle.std.specs.Prelude.{ℕ, List, ◌++◌, codes, decimal}
use Rattle.effects.specs.declared.effect.Kind.{Kind}
use Rattle.effects.specs.declared.effect.Kind.TheVariants.{Nullification, Notarization}
use Rattle.effects.specs.declared.effect.FetchReason.{FetchReason}
use Rattle.effects.specs.declared.effect.FetchReason.TheVariants.{MissingNullification, CertificationFailed}
use Rattle.effects.specs.declared.effect.Effect.{Effect}
use Rattle.effects.specs.declared.effect.Effect.TheVariants.{Fetch, Settled, Finalized, Raised}

abbrev pub kind_name : Kind → List ℕ
kind_name Nullification = codes "nullification"
kind_name Notarization = codes "notarization"

abbrev pub reason_name : FetchReason → List ℕ
reason_name MissingNullification = codes "missing_nullification"
reason_name CertificationFailed = codes "certification_failed"

abbrev pub effect_text : Effect → List ℕ
effect_text (Fetch v c r) = codes "fetch " ++ (decimal v ++ (codes " " ++ (decimal c ++ (codes " " ++ reason_name r))))
effect_text (Settled k a b) = codes "settled " ++ (kind_name k ++ (codes " " ++ (decimal a ++ (codes " " ++ decimal b))))
effect_text (Finalized v) = codes "finalized " ++ decimal v
effect_text (Raised v) = codes "raised " ++ decimal v
