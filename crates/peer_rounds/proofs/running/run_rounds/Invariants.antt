use Rattle.peer_rounds.specs.Lives.{Lived}
use Rattle.peer_rounds.specs.Rounds.{Wrote}
use Rattle.peer_rounds.specs.Runs.{Ran}
use Rattle.peer_rounds.proofs.running.run_rounds.Given as goal

-- the rounds so far each settled an ask, and are written
abbrev pub invariant-loop-before : goal.invariant-loop-before
invariant-loop-before g l =
    Wrote (g.W.Write.contents l.fn.out) (g.W.Write.contents l.out) (Ran g.B.Board.asks l.peer l.fn.member l.before l.member l.tally) × (Lived g.B.Board.asks l.fn.member → Lived g.B.Board.asks l.member)
