use Rattle.std.proofs.Common.{take, flat_map}
use Rattle.std.specs.Fmt.{HasWritten, IsPlainFormatter}
use Rattle.answers.specs.Texts.{one_more}
use Rattle.peer_rounds.proofs.asked.ListingDisplay.fmt.Given as goal

abbrev pub invariant-loop-open : goal.invariant-loop-open
invariant-loop-open g l =
    IsPlainFormatter l.initial.f → HasWritten g.W.Write.write_str_gives l.initial.f (flat_map one_more (take l.open-index l.rest)) l.f
