use Rattle.std.proofs.Common.{rules, take, refl, sym, ◌∙◌, subst}
use Rattle.std.proofs.lemmas.List.{take_more}
use Rattle.one_member.specs.Drained.{Made}
use Rattle.one_member.proofs.Drains.{none_made, made_more, queue_kept}
use Rattle.one_member.proofs.member.Member.call_with_each.Goals as goal

pub loop-message-init : goal.loop-message-init
loop-message-init g c = (refl, none_made g.B.Board.asks c.args.self.now (g.W.Write.contents c.args.out.now))

pub loop-message-preserved : goal.loop-message-preserved
loop-message-preserved g c =
    let xs = c.args.messages.now in
    let i = c.loop-message.message-index in
    let u = g.W.Write.contents c.args.out.now in
    let w = g.W.Write.contents c.writeln.new.self in
    let n = c.call_with-answered.new.self in
    let called = c.call_with-answered.ensures in
    let more = made_more g.B.Board.asks (take i xs) _ c.args.self.now c.loop-message.self n u _ w _ c.loop-message.invariant.1 called (search rules) in (
      queue_kept g.B.Board.asks _ c.loop-message.self n _ called ∙ c.loop-message.invariant.0,
      subst (λ ys. Made g.B.Board.asks ys c.args.self.now n u w) (sym (take_more xs i _ (search rules))) more,
    )
