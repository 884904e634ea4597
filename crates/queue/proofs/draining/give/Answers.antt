use Rattle.std.proofs.Common.{◌≡◌, arith, subst, drop}
use Rattle.queue.proofs.Gone.{left, list_more, rest_more}
use Rattle.queue.proofs.draining.give.Goals as goal

pub loop-i-preserved : goal.loop-i-preserved
loop-i-preserved g c =
    let i = c.loop-i.i in
    record {
      list = list_more c.args.list.now c.loop-i.list c.loop-i.messages c.args.messages.now c.args.from i c.swap.new.x c.index-messages-i.result c.loop-i.invariant.list c.loop-i.invariant.rest (omega (arith, c.loop-i-test.true, c.requires.room)) (omega (arith, c.loop-i-test.true, c.requires.count, c.requires.len)) c.swap.ensures.x_after;
      rest = rest_more c.loop-i.messages c.args.messages.now i c.swap.new.y c.loop-i.invariant.rest;
    }

pub returns-clause-left : goal.returns-clause-left
returns-clause-left g c =
    let all : c.loop-i.i ≡ c.args.count = omega (arith, c.loop-i-test.false, c.loop-i.auto.i-end) in
    left c.loop-i.messages c.args.messages.now c.rotate_left.new.self c.args.count c.args.len c.requires.count (omega (arith, c.loop-i.auto.messages, c.requires.len)) (subst (λ n. drop n c.loop-i.messages ≡ drop n c.args.messages.now) all c.loop-i.invariant.rest) c.rotate_left.ensures.after
