use Rattle.std.proofs.Common.{refl, length, subst}
use Rattle.stepping.specs.Runs.{Stepped, Passed}
use Rattle.stepping.proofs.InTurn.{passed_more}
use Rattle.stepping.proofs.member.Member.pass.Goals as goal

pub loop-i-init : goal.loop-i-init
unfolding Passed
loop-i-init g c = (refl, refl)

pub loop-i-preserved : goal.loop-i-preserved
loop-i-preserved g c =
    let k = c.loop-i.self in
    let n = c.step-in-loop-i.new.self in
    let r = c.loop-i.tally in
    let u = c.step-in-loop-i.new.tally in
    let stepped = subst (λ room. Stepped g.B.Board.asks room c.later-step.result k n r u) c.loop-i.auto.list c.step-in-loop-i.ensures in
    passed_more g.B.Board.asks (length c.args.list.now) c.args.by c.args.stream.now.steps.now c.loop-i.i c.args.self.now k n c.args.tally.now r u c.unwrap.result c.later-step.result c.loop-i.invariant (rw c.unwrap.ensures at c.step.ensures).1 c.later-step.ensures stepped
