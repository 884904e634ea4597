use Rattle.std.proofs.Common.{◌≡◌, take}
use Rattle.resolver.specs.Applied.{begun, in_turn}
use Rattle.resolver.proofs.applying.begin_all.Given as goal

abbrev pub invariant-loop-effect : goal.invariant-loop-effect
invariant-loop-effect g l = g.B.Board.asks l.board ≡ in_turn begun (take l.effect-index l.effects) (g.B.Board.asks l.initial.board)
