use Rattle.std.proofs.Common.{◌≡◌, take}
use Rattle.one_member.specs.Drained.{Made}
use Rattle.one_member.proofs.member.Member.call_with_each.Given as goal

-- the calls that were gone through are made, and their lines written
abbrev pub invariant-loop-message : goal.invariant-loop-message
invariant-loop-message g l =
    (l.self.queue ≡ l.fn.self.queue) × Made g.B.Board.asks (take l.message-index l.messages) l.fn.self l.self (g.W.Write.contents l.fn.out) (g.W.Write.contents l.out)
