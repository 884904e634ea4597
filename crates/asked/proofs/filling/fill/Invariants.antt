use Rattle.std.proofs.Common.{◌≡◌, drop}
use Rattle.asked.specs.Lists.{appended}
use Rattle.asked.proofs.filling.fill.Given as goal

abbrev pub invariant-loop-asked : goal.invariant-loop-asked
invariant-loop-asked g l = appended (g.B.Board.asks l.board) (drop l.asked-index l.asks) ≡ appended (g.B.Board.asks l.initial.board) l.asks
