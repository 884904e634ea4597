use Rattle.std.proofs.Common.{◌≡◌, ◌+◌, ◌++◌, take, drop}
use Rattle.queue.proofs.draining.give.Given as goal

abbrev pub invariant-loop-i : goal.invariant-loop-i
invariant-loop-i g l = record {
  list : l.list ≡ take l.from l.initial.list ++ take l.i l.initial.messages ++ drop (l.from + l.i) l.initial.list;
  rest : drop l.i l.messages ≡ drop l.i l.initial.messages;
}
