use Rattle.std.proofs.Common.{◌≡◌, ◌++◌, flat_map}
use Rattle.std.specs.Fmt.{HasWritten, IsPlainFormatter}
use Rattle.board.specs.Left.{from_next}
use Rattle.answers.specs.Texts.{one_more}
use Rattle.answers.proofs.showing.OpenAsksDisplay.fmt.Given as goal

-- the asks that were gone through are written, and the others are left
abbrev pub invariant-loop-asked : goal.invariant-loop-asked
invariant-loop-asked g l =
    (IsPlainFormatter l.initial.f → HasWritten g.W.Write.write_str_gives l.initial.f (flat_map one_more l.yielded) l.f)
    × (l.yielded ++ from_next l.asked-iterator.next (g.B.Board.asks l.asked-iterator.board.now) ≡ from_next l.initial.asked-iterator.next (g.B.Board.asks l.initial.asked-iterator.board.now))
