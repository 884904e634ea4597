use Rattle.peer_rounds.proofs.asked.CameDisplay.fmt.Goals as goal

pub returns-in-Brought-clause-writes : goal.returns-in-Brought-clause-writes
returns-in-Brought-clause-writes g c = rw c.in-Brought.is (rw c.header-header.ensures at c.write.ensures.writes)
