use Rattle.std.proofs.Common.{length}
use Rattle.stepping.specs.Runs.{Passed}
use Rattle.stepping.proofs.member.Member.pass.Given as goal

abbrev pub invariant-loop-i : goal.invariant-loop-i
invariant-loop-i g l = Passed g.B.Board.asks (length l.fn.list) l.by l.stream.steps.now l.i l.fn.self l.self l.fn.tally l.tally
