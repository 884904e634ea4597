use Rattle.std.proofs.Common.{◌≡◌, ◌≤◌, length, filter, take}
use Rattle.board.specs.Asks.{kind_of}
use Rattle.state.specs.Settled.{settled}
use Rattle.state.specs.States.{held, term}
use Rattle.resolver.proofs.resolver.Resolver.settled_asks.Given as goal

abbrev pub invariant-loop-ask : goal.invariant-loop-ask
invariant-loop-ask g l =
    (l.settled ≡ length (filter (λ a. settled (term l.self.state) (kind_of a) l.view (held l.self.state)) (take l.ask-index l.asks)))
    × (l.settled ≤ l.ask-index)
