use Rattle.std.proofs.Common.{◌≡◌, Err, inr, arith, rules}
use Rattle.both_ways.specs.declared.fault.Fault.TheVariants.{Resolver as OfResolver}
use Rattle.queue.proofs.Laws.{kept}
use Rattle.both_ways.proofs.Offering.{refused_last, offered_and_emptied, all_emptied}
use Rattle.both_ways.proofs.running.run.Goals as goal

pub returns-in_err-empty_into-clause-ran : goal.returns-in_err-empty_into-clause-ran
returns-in_err-empty_into-clause-ran g c =
    let same : c.from_residual-in_err-empty_into.result ≡ Err (OfResolver c.in_err-empty_into.field-0.0) = search rules in
    rw same (inr (record {
      directly = c.in_ok-call_all.ensures.called;
      stops = refused_last g.R.Record.parsed g.R.Record.sort g.R.Record.era _ _ _ _ _ _ _ _ _ _ _ _ _ c.in_ok-offer_all.ensures.offered c.empty_into.ensures.queue c.in_err-empty_into.ensures.called;
    }))

pub returns-clause-ran : goal.returns-clause-ran
returns-clause-ran g c = record {
  directly = c.in_ok-call_all.ensures.called;
  through = offered_and_emptied g.R.Record.parsed g.R.Record.sort g.R.Record.era _ _ _ _ _ _ _ _ _ _ _ _ _ (omega arith) c.in_ok-offer_all.ensures.queue c.in_ok-offer_all.ensures.offered c.empty_into.ensures.queue c.in_ok-empty_into.ensures.called;
  emptied = all_emptied _ _ _ (kept c.offer_all.new.queue) (omega arith) c.empty_into.ensures.queue;
}
