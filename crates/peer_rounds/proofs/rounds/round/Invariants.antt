use Rattle.peer_rounds.specs.Lives.{Lived}
use Rattle.peer_rounds.specs.Rounds.{Wrote, Puts}
use Rattle.peer_rounds.proofs.Ahead.{left}
use Rattle.peer_rounds.proofs.rounds.round.Given as goal

-- the views that were put are written, and the next is looked for above them
abbrev pub invariant-loop-view : goal.invariant-loop-view
invariant-loop-view g l =
    Wrote (g.W.Write.contents l.fn.out) (g.W.Write.contents l.out) (Puts g.B.Board.asks l.peer l.fn.member l.from l.member l.tally) × (Lived g.B.Board.asks l.fn.member → Lived g.B.Board.asks l.member)

abbrev pub decreases-loop-view : goal.decreases-loop-view
decreases-loop-view g l = left l.from
