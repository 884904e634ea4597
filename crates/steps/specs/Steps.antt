-- What a step means, and the same step some views later.
use Rattle.std.specs.Prelude.{ℕ, ◌+◌, ◌%◌, ◌^◌, cond, List, [], ◌∷◌, ◌++◌}
use Rattle.board.specs.declared.ask.Ask.{Ask}
use Rattle.board.specs.declared.ask.Ask.TheVariants.{Background, Ancestry}
use Rattle.effects.specs.declared.effect.Kind.TheVariants.{Nullification, Notarization}
use Rattle.steps.specs.declared.step.AskSet.{AskSet}
use Rattle.steps.specs.declared.step.Call.{Call as Calling}
use Rattle.steps.specs.declared.step.Call.TheVariants.{Updated, Certified, Replayed, Resolve}
use Rattle.steps.specs.declared.step.Order.{Order as Ordered}
use Rattle.steps.specs.declared.step.Order.TheVariants.{Call, Offer, Deliver, Settled, Produce}
use Rattle.steps.specs.declared.step.Step.{Step}
use Rattle.steps.specs.declared.step.Step.TheVariants.{Order, Drain}

-- the asks of a delivery, in the order of their bits
abbrev pub listed : AskSet → List Ask
listed a = cond a.background (Background ∷ []) [] ++ (cond a.nullification (Ancestry Nullification ∷ []) [] ++ cond a.notarization (Ancestry Notarization ∷ []) [])

-- a view, so many views later: it may wrap
abbrev pub later : ℕ → ℕ → ℕ
later by v = (v + by) % 2 ^ 64

abbrev pub later_call : ℕ → Calling → Calling
later_call by (Updated k v) = Updated k (later by v)
later_call by (Certified b k v) = Certified b k (later by v)
later_call by Replayed = Replayed
later_call by (Resolve p v k t) = Resolve (later by p) (later by v) k t

abbrev pub later_order : ℕ → Ordered → Ordered
later_order by (Call c) = Call (later_call by c)
later_order by (Offer c) = Offer (later_call by c)
later_order by (Deliver v k u a) = Deliver (later by v) k (later by u) a
later_order by (Settled v k) = Settled (later by v) k
later_order by (Produce v) = Produce (later by v)

-- how many messages a drain takes is no view
abbrev pub later_step : ℕ → Step → Step
later_step by (Order o) = Order (later_order by o)
later_step by (Drain n) = Drain n
