use Rattle.std.proofs.Common.{◌≡◌, length}
use Rattle.stepping.specs.Runs.{Ran}
use Rattle.stepping.specs.Tallies.{none_yet}
use Rattle.stepping.proofs.member.Member.run.Given as goal

abbrev pub invariant-loop-i : goal.invariant-loop-i
invariant-loop-i g l = Ran g.B.Board.asks 65 l.stream.header.span l.stream.steps.now l.i l.fn.self l.self none_yet l.tally × (length l.list ≡ 65)
