use Rattle.std.proofs.Common.{rules, ◌/◌, ◌%◌, ◌*◌, ◌^◌, length, refl, subst, ◌∙◌}
use Rattle.stepping.specs.Runs.{Passed, Ran}
use Rattle.stepping.specs.Tallies.{none_yet}
use Rattle.stepping.proofs.InTurn.{ran_more}
use Rattle.stepping.proofs.member.Member.run.Goals as goal

pub loop-i-init : goal.loop-i-init
unfolding Ran
loop-i-init g c = ((refl, search rules), refl)

pub loop-i-preserved : goal.loop-i-preserved
loop-i-preserved g c =
    let bs = c.args.stream.now.steps.now in
    let span = c.args.stream.now.header.span in
    let k = c.loop-i.self in
    let n = c.pass.new.self in
    let r = c.loop-i.tally in
    let u = c.pass.new.tally in
    let passed = subst (λ room. Passed g.B.Board.asks room (c.loop-i.i * span % 2 ^ 64) bs (length bs / 24) k n r u) c.loop-i.invariant.1 c.pass.ensures in (
      ran_more g.B.Board.asks 65 span bs c.loop-i.i (c.loop-i.i * span % 2 ^ 64) c.args.self.now k n none_yet r u c.loop-i.invariant.0 refl passed,
      c.pass.auto.list ∙ c.loop-i.invariant.1,
    )
