use Rattle.std.proofs.Common.{◌≡◌, take}
use Rattle.both_ways.specs.Calling.{AllCalled}
use Rattle.effects.specs.Lists.{places}
use Rattle.both_ways.proofs.calling.call_all.Given as goal

abbrev pub invariant-loop-message : goal.invariant-loop-message
invariant-loop-message g l =
    AllCalled g.R.Record.parsed g.R.Record.sort g.R.Record.era (take l.message-index l.messages) l.fn.resolver.calls.state l.resolver.calls.state (g.B.Board.asks l.fn.board) (g.B.Board.asks l.board)
    × (places l.effects ≡ places l.fn.effects)
