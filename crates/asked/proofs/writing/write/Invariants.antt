use Rattle.std.proofs.Common.{◌≡◌, ◌≤◌, ◌++◌, map, length, take, drop}
use Rattle.board.specs.Left.{shown, from_next}
use Rattle.asked.specs.Rows.{row_of}
use Rattle.asked.proofs.writing.write.Given as goal

-- those that were gone through are written, and the others are left
abbrev pub invariant-loop-asked : goal.invariant-loop-asked
invariant-loop-asked g l =
    (length (shown (g.B.Board.asks l.board)) ≤ length l.initial.asks → (l.n ≡ length l.yielded) × (take l.n l.asks ≡ map row_of l.yielded) × (drop l.n l.asks ≡ drop l.n l.initial.asks))
    × (l.yielded ++ from_next l.asked-iterator.next (g.B.Board.asks l.asked-iterator.board.now) ≡ shown (g.B.Board.asks l.board))
