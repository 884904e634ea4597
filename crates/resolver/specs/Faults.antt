-- The number and the layer of each fault.
use Rattle.refusals.specs.declared.Layer.TheVariants.{Resolver}
use Rattle.refusals.specs.declared.Refusal.{Refusal}
use Rattle.board.specs.Faults as boards
use Rattle.state.specs.Faults as states
use Rattle.resolver.specs.declared.fault.Fault.{Fault}
use Rattle.resolver.specs.declared.fault.Fault.TheVariants.{State, Board, WrongAsks, BoardNotEmpty}

-- a fault of a lower layer keeps its number and its layer
abbrev pub refusal_of : Fault → Refusal
refusal_of (State f) = states.refusal_of f
refusal_of (Board f) = boards.refusal_of f
refusal_of WrongAsks = record { number = 10; layer = Resolver }
refusal_of BoardNotEmpty = record { number = 14; layer = Resolver }
