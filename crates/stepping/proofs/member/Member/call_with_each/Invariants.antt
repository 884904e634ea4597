use Rattle.std.proofs.Common.{◌≡◌}
use Rattle.stepping.specs.Runs.{AllCalled}
use Rattle.stepping.proofs.member.Member.call_with_each.Given as goal

-- the messages that were gone through are called, and their answers counted
abbrev pub invariant-loop-message : goal.invariant-loop-message
invariant-loop-message g l =
    AllCalled g.B.Board.asks l.messages l.message-index l.fn.self l.self l.fn.tally l.tally × (l.self.queue ≡ l.fn.self.queue)
