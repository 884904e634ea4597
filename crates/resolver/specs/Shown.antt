-- The words of an outcome.
use Rattle.std.specs.Prelude.{ℕ, List, codes}
use Rattle.resolver.specs.declared.outcome.Outcome.{Outcome}
use Rattle.resolver.specs.declared.outcome.Outcome.TheVariants.{Ignored, Invalid, Unresolved, Partial, Complete, LetGo}

abbrev pub outcome_name : Outcome → List ℕ
outcome_name Ignored = codes "ignored"
outcome_name Invalid = codes "invalid"
outcome_name Unresolved = codes "unresolved"
outcome_name Partial = codes "partial"
outcome_name Complete = codes "complete"
outcome_name LetGo = codes "let go"
