-- The number and the layer of each fault.
use Rattle.both_ways.specs.declared.fault.Fault.{Fault}
use Rattle.both_ways.specs.declared.fault.Fault.TheVariants.{Resolver, Queue}
use Rattle.queue.specs.Faults as queues
use Rattle.refusals.specs.declared.Refusal.{Refusal}
use Rattle.resolver.specs.Faults as resolvers

-- a fault of a lower layer keeps its number and its layer
abbrev pub refusal_of : Fault → Refusal
refusal_of (Resolver f) = resolvers.refusal_of f
refusal_of (Queue f) = queues.refusal_of f
