-- What the calls of a run record, and what their effects make of the open asks. Calls stand newest first.
use Rattle.std.specs.Prelude.{ℕ, List, [], ◌∷◌, reverse, take}
use Rattle.board.specs.declared.open.Open.{Open}
use Rattle.effects.specs.declared.effect.Effect.{Effect}
use Rattle.history.specs.Calls.{Call, evidence, verdict, marker, request}
use Rattle.record.specs.Certificates.{kind_in}
use Rattle.record.specs.declared.certificate.Certificate.{Certificate}
use Rattle.resolver.specs.Applied.{applied}
use Rattle.store.specs.Fresh.{fresh}
use Rattle.store.specs.Steps.{updated, updated_effects, certified, certified_effects, replayed, replayed_effects}
use Rattle.store.specs.Values as store
use Rattle.views.specs.declared.Viewable as viewable
use Rattle.cases.specs.Records.{view_in}
use Rattle.cases.specs.Table.{four, run}

abbrev by_view : viewable.Ghosts Certificate
by_view = record { viewed = view_in }

abbrev pub Values : Type 0
Values = store.Values Certificate by_view

-- the first n calls of the run
abbrev pub first : ℕ → List (Call Certificate)
first n = reverse (take n run)

-- what a call makes of the values, and its effects; the run has no requests
abbrev stepped : Call Certificate → Values → Values
stepped (evidence x) s = updated four (kind_in x) x s
stepped (verdict b x) s = certified four b x s
stepped marker s = replayed four s
stepped (request v k t) s = s

abbrev effects_of : Call Certificate → Values → List Effect
effects_of (evidence x) s = updated_effects four (kind_in x) x s
effects_of (verdict b x) s = certified_effects four b x s
effects_of marker s = replayed_effects four s
effects_of (request v k t) s = []

-- the values after some calls, the effects of the last of them, and the open asks after them
abbrev pub values_after : List (Call Certificate) → Values
values_after [] = fresh
values_after (c ∷ h) = stepped c (values_after h)

abbrev pub last_effects : List (Call Certificate) → List Effect
last_effects [] = []
last_effects (c ∷ h) = effects_of c (values_after h)

abbrev pub asks_after : List (Call Certificate) → List Open
asks_after [] = []
asks_after (c ∷ h) = applied (effects_of c (values_after h)) (asks_after h)
