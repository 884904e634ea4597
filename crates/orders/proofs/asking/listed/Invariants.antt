use Rattle.std.proofs.Common.{length}
use Rattle.orders.proofs.Listing.{Left}
use Rattle.orders.proofs.asking.listed.Given as goal

abbrev pub invariant-loop-asks : goal.invariant-loop-asks
invariant-loop-asks l = Left l.word l.rest l.asks.items

abbrev pub decreases-loop-asks : goal.decreases-loop-asks
decreases-loop-asks l = length l.rest
