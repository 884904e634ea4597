use Rattle.std.proofs.Common.{◌≡◌, take, length}
use Rattle.both_ways.specs.Queueing.{so_far, AllThrough}
use Rattle.effects.specs.Lists.{places}
use Rattle.queue.specs.Pendings.{queue_of}
use Rattle.both_ways.proofs.queueing.offer_all.Given as goal

abbrev pub invariant-loop-i : goal.invariant-loop-i
invariant-loop-i g l =
    let before = so_far l.messages l.cuts (length l.fn.list) (queue_of l.fn.queue) l.i in
    AllThrough g.R.Record.parsed g.R.Record.sort g.R.Record.era (take l.i l.messages) before.0 (queue_of l.fn.queue) (queue_of l.queue) l.fn.resolver.calls.state l.resolver.calls.state (g.B.Board.asks l.fn.board) (g.B.Board.asks l.board)
    × (queue_of l.queue ≡ before.1)
    × (length l.list ≡ length l.fn.list)
    × (places l.effects ≡ places l.fn.effects)
