use Rattle.std.proofs.Common.{◌≡◌, ◌^◌, ◌<◌, drop}
use Rattle.words.specs.Numerals.{read_on}
use Rattle.words.proofs.digits.value.Given as goal

-- the digits that are left go on from the number so far
abbrev pub invariant-loop-c : goal.invariant-loop-c
invariant-loop-c l = (l.n < 2 ^ 64) × (read_on l.n (drop l.c-index l.word) ≡ read_on 0 l.word)
