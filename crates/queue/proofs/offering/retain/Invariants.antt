use Rattle.std.proofs.lemmas.List.Filters.{FiltersInPlace}
use Rattle.queue.specs.Messages.{stays_past}
use Rattle.queue.proofs.offering.retain.Given as goal

abbrev pub invariant-loop-i : goal.invariant-loop-i
invariant-loop-i g l = FiltersInPlace (λ m. stays_past l.view m) l.initial.messages l.messages l.kept l.i
