use Rattle.std.proofs.Common.{rules, refl}
use Rattle.recordings.proofs.Buffers.{in_buffer}
use Rattle.recordings.proofs.replay.ReplayAsker.take.Goals as goal

pub returns-then-same-clause-taken : goal.returns-then-same-clause-taken
returns-then-same-clause-taken g c = record {
  answer = c.answer.new.out.items;
  answered = in_buffer _ _ _ c.in_ok-turn.ensures c.new-answered.ensures.items;
  took = record { recording = refl; recorded = refl; tally = search rules; out = search rules };
}

pub returns-clause-taken : goal.returns-clause-taken
returns-clause-taken g c = record {
  answer = c.answer.new.out.items;
  answered = in_buffer _ _ _ c.in_ok-turn.ensures c.new-answered.ensures.items;
  took = record { recording = refl; recorded = refl; tally = search rules; out = search rules };
}
