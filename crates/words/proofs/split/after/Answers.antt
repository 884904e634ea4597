use Rattle.std.proofs.Common.{◌≡◌, suc, ◌+◌, ◌-◌, ap, ◌∙◌, arith}
use Rattle.words.specs.Lines.{after_words}
use Rattle.words.proofs.split.after.Goals as goal

pub loop-preserved : goal.loop-preserved
unfolding after_words
loop-preserved c =
    let left = c.args.n - (c.loop.counter + 1) in
    let one : suc left ≡ c.args.n - c.loop.counter = omega arith in
    ap (after_words left) c.split_word.ensures.rest ∙ ap (λ k. after_words k c.loop.rest.now) one ∙ c.loop.invariant
