use Rattle.std.proofs.Common.{◌≡◌, ◌≤◌}
use Rattle.catching_up.specs.Standings.{unsettled}
use Rattle.state.specs.States.{held, term}
use Rattle.catching_up.proofs.standing.unsettled.Given as goal

abbrev pub invariant-loop-i : goal.invariant-loop-i
invariant-loop-i g l =
    (l.count ≡ unsettled (term l.member.resolver.calls.state) (held l.member.resolver.calls.state) l.low l.i) × (l.count ≤ l.i)
