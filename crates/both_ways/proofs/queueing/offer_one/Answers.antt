use Rattle.std.proofs.Common.{◌≡◌, Err, rules}
use Rattle.both_ways.specs.declared.fault.Fault.TheVariants.{Resolver as OfResolver, Queue as OfQueue}
use Rattle.both_ways.proofs.Offering.{one_offered, one_refused, one_full}
use Rattle.both_ways.proofs.queueing.offer_one.Goals as goal

pub returns-in_err-handle-clause-offered : goal.returns-in_err-handle-clause-offered
returns-in_err-handle-clause-offered g c =
    let same : c.from_residual.result ≡ Err (OfQueue c.in_err-handle.field-0.0) = search rules in
    rw same (one_full g.R.Record.parsed g.R.Record.sort g.R.Record.era c.args.message _ _ _ c.handle.ensures.answer c.handle.ensures.queue _ _ c.in_err-handle.field-0.0 c.in_err-handle.was)

pub returns-in_err-empty_into-clause-offered : goal.returns-in_err-empty_into-clause-offered
returns-in_err-empty_into-clause-offered g c =
    let same : c.from_residual-in_err-empty_into.result ≡ Err (OfResolver c.in_err-empty_into.field-0.0) = search rules in
    rw same (one_refused g.R.Record.parsed g.R.Record.sort g.R.Record.era c.args.message _ _ _ c.handle.ensures.answer c.handle.ensures.queue _ _ c.empty_into.ensures.queue _ _ _ _ c.in_ok-handle.was c.in_err-empty_into.field-0.0 c.in_err-empty_into.ensures.called)

pub returns-clause-offered : goal.returns-clause-offered
returns-clause-offered g c = one_offered g.R.Record.parsed g.R.Record.sort g.R.Record.era c.args.message _ _ _ c.handle.ensures.answer c.handle.ensures.queue _ _ c.empty_into.ensures.queue _ _ _ _ c.in_ok-handle.was c.in_ok-empty_into.ensures.called
