use Rattle.std.proofs.Common.{◌≤◌, take}
use Rattle.catching_up.specs.Entries.{TakenIn}
use Rattle.peer_rounds.specs.Lives.{Lived}
use Rattle.catching_up.proofs.taking.take_in_all.Given as goal

-- the entries that were gone through are taken in
abbrev pub invariant-loop-entry : goal.invariant-loop-entry
invariant-loop-entry g l =
    TakenIn g.B.Board.asks l.fn.member (take l.entry-index l.entries) l.member l.refused × (Lived g.B.Board.asks l.fn.member → Lived g.B.Board.asks l.member) × (l.refused ≤ l.entry-index)
