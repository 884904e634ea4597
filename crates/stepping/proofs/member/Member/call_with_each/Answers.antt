use Rattle.std.proofs.Common.{refl, ◌∙◌}
use Rattle.stepping.specs.Runs.{AllCalled}
use Rattle.stepping.proofs.InTurn.{called_more, queue_kept}
use Rattle.stepping.proofs.member.Member.call_with_each.Goals as goal

pub loop-message-init : goal.loop-message-init
unfolding AllCalled
loop-message-init g c = ((refl, refl), refl)

pub loop-message-preserved : goal.loop-message-preserved
loop-message-preserved g c = (
  called_more g.B.Board.asks c.args.messages.now c.loop-message.message-index _ c.args.self.now c.loop-message.self c.call.new.self c.args.tally.now c.loop-message.tally c.add.new.self c.call.result c.loop-message-test.true c.loop-message.invariant.0 c.call.ensures c.add.ensures,
  queue_kept g.B.Board.asks c.call.result c.loop-message.self c.call.new.self _ c.call.ensures ∙ c.loop-message.invariant.1,
)
