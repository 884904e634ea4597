use Rattle.std.proofs.Common.{◌≡◌, ℕ, List, [], Err, suc, drop, get_or, subst, sym, refl, ◌∙◌, arith, rules}
use Rattle.std.proofs.lemmas.List.{take_more, take_all}
use Rattle.queue.specs.declared.message.Message.{Message}
use Rattle.queue.specs.declared.message.Message.TheVariants.{Updated}
use Rattle.record.specs.declared.kind.Kind.TheVariants.{Notarization}
use Rattle.both_ways.specs.Calling.{AllCalled}
use Rattle.both_ways.proofs.InTurn.{none_called_yet, one_more_called, stops_there}
use Rattle.both_ways.proofs.Repeated.{parted}
use Rattle.both_ways.proofs.calling.call_all.Goals as goal

pub loop-message-init : goal.loop-message-init
loop-message-init g c = (none_called_yet g.R.Record.parsed g.R.Record.sort g.R.Record.era _ _, refl)

pub returns-in_err-call-clause-called : goal.returns-in_err-call-clause-called
returns-in_err-call-clause-called g c =
    let ms = c.args.messages.now in
    let i = c.loop-message.message-index in
    let d : Message (List ℕ) = Updated Notarization 0 [] in
    let same : c.from_residual.result ≡ Err c.in_err-call.field-0.0 = search rules in
    rw same (stops_there g.R.Record.parsed g.R.Record.sort g.R.Record.era _ (get_or ms i d) _ _ _ _ _ _ _ c.loop-message.invariant.0 ms (drop (suc i) ms) _ (parted ms i d c.loop-message-test.true) c.in_err-call.ensures.step)

pub returns-in_err-call-clause-places : goal.returns-in_err-call-clause-places
returns-in_err-call-clause-places g c = c.call.ensures.places ∙ c.loop-message.invariant.1

pub loop-message-preserved : goal.loop-message-preserved
loop-message-preserved g c =
    let ms = c.args.messages.now in
    let i = c.loop-message.message-index in
    let d : Message (List ℕ) = Updated Notarization 0 [] in (
      subst (λ xs. AllCalled g.R.Record.parsed g.R.Record.sort g.R.Record.era xs c.args.resolver.now.calls.state c.call.new.resolver.calls.state (g.B.Board.asks c.args.board.now) (g.B.Board.asks c.call.new.board)) (sym (take_more ms i d c.loop-message-test.true))
          (one_more_called g.R.Record.parsed g.R.Record.sort g.R.Record.era _ (get_or ms i d) _ _ _ _ _ _ _ c.loop-message.invariant.0 _ c.in_ok-call.ensures.step),
      c.call.ensures.places ∙ c.loop-message.invariant.1,
    )

pub returns-clause-called : goal.returns-clause-called
returns-clause-called g c =
    subst (λ xs. AllCalled g.R.Record.parsed g.R.Record.sort g.R.Record.era xs c.args.resolver.now.calls.state c.loop-message.resolver.calls.state (g.B.Board.asks c.args.board.now) (g.B.Board.asks c.loop-message.board)) (take_all c.loop-message.message-index c.args.messages.now (omega (arith, c.loop-message-test.false))) c.loop-message.invariant.0

pub returns-clause-places : goal.returns-clause-places
returns-clause-places g c = c.loop-message.invariant.1
