use Rattle.std.proofs.Common.{◌≡◌, ℕ, List, [], Err, suc, drop, length, refl, ◌∙◌, arith, rules}
use Rattle.std.proofs.lemmas.List.{length-append, length-drop, length-take}
use Rattle.queue.specs.declared.message.Message.{Message}
use Rattle.queue.specs.declared.message.Message.TheVariants.{Updated}
use Rattle.record.specs.declared.kind.Kind.TheVariants.{Notarization}
use Rattle.both_ways.proofs.Offering.{none_offered_yet, one_more_offered, stops_later}
use Rattle.both_ways.proofs.Repeated.{parted}
use Rattle.both_ways.proofs.queueing.offer_all.Goals as goal

pub loop-i-init : goal.loop-i-init
unfolding Rattle.both_ways.specs.Queueing.so_far
loop-i-init g c = (none_offered_yet g.R.Record.parsed g.R.Record.sort g.R.Record.era _ _ _, refl, refl, refl)

pub returns-in_err-offer_one-clause-offered : goal.returns-in_err-offer_one-clause-offered
returns-in_err-offer_one-clause-offered g c =
    let ms = c.args.messages.now in
    let i = c.loop-i.i in
    let d : Message (List ℕ) = Updated Notarization 0 [] in
    let same : c.from_residual.result ≡ Err c.in_err-offer_one.field-0.0 = search rules in
    rw same (stops_later g.R.Record.parsed g.R.Record.sort g.R.Record.era _ _ ms _ _ _ _ _ _ _ _ _ _ (drop (suc i) ms) c.in_err-offer_one.field-0.0 (parted ms i d c.loop-i-test.true) c.loop-i.invariant.0 c.in_err-offer_one.ensures.offered)

pub loop-i-preserved : goal.loop-i-preserved
loop-i-preserved g c =
    let ms = c.args.messages.now in
    let i = c.loop-i.i in
    let d : Message (List ℕ) = Updated Notarization 0 [] in
    let more = one_more_offered g.R.Record.parsed g.R.Record.sort g.R.Record.era ms c.args.cuts.now (length c.args.list.now) _ _ _ _ _ _ _ _ _ i d _ c.loop-i-test.true (omega (arith, length-take c.cut-places.result c.loop-i.list, c.cut-places.ensures, c.loop-i.invariant.2)) c.loop-i.invariant.0 c.loop-i.invariant.1 c.in_ok-offer_one.ensures.offered c.in_ok-offer_one.ensures.queue in
    (more.0, more.1, omega (arith, length-append c.offer_one.new.list (drop c.cut-places.result c.loop-i.list), length-drop c.cut-places.result c.loop-i.list, length-take c.cut-places.result c.loop-i.list, c.cut-places.ensures, c.offer_one.ensures.list, c.loop-i.invariant.2), c.offer_one.ensures.places ∙ c.loop-i.invariant.3)
