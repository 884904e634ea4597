use Rattle.std.proofs.Common.{◌≡◌, ◌-◌}
use Rattle.words.specs.Lines.{after_words}
use Rattle.words.proofs.split.after.Given as goal

-- as many words are still to pass as turns are left
abbrev pub invariant-loop : goal.invariant-loop
invariant-loop l = after_words (l.n - l.counter) l.rest ≡ after_words l.n l.text
