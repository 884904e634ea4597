-- What is counted, and the line that says it.
use Rattle.std.specs.Prelude.{ℕ, ◌+◌, ◌%◌, ◌^◌, List, ◌++◌, codes, decimal}
use Rattle.stepping.specs.declared.tally.Answer.{Answer}
use Rattle.stepping.specs.declared.tally.Answer.TheVariants.{Refused, Nothing, Done, Recorded, Served}
use Rattle.stepping.specs.declared.tally.Line.{Line}
use Rattle.stepping.specs.declared.tally.Tally.{Tally}

abbrev pub none_yet : Tally
none_yet = record { calls = 0; done = 0; refused = 0; effects = 0; served = 0 }

-- so many more, in 64 bits
abbrev pub more : ℕ → ℕ → ℕ
more n c = (c + n) % 2 ^ 64

-- one more answer that did something
abbrev pub did : Tally → Tally
did t = record t { calls = more 1 t.calls; done = more 1 t.done }

abbrev pub added : Answer → Tally → Tally
added Refused t = record t { calls = more 1 t.calls; refused = more 1 t.refused }
added Nothing t = record t { calls = more 1 t.calls }
added Done t = did t
added (Recorded n) t = record (did t) { effects = more n t.effects }
added (Served v) t = record (did t) { served = more v t.served }

-- `calls C done D refused R effects E served S open O`
abbrev pub line_text : Line → List ℕ
line_text l = codes "calls " ++ (decimal l.tally.calls ++ (codes " done " ++ (decimal l.tally.done ++ (codes " refused " ++ (decimal l.tally.refused ++ (codes " effects " ++ (decimal l.tally.effects ++ (codes " served " ++ (decimal l.tally.served ++ (codes " open " ++ decimal l.open_asks))))))))))
