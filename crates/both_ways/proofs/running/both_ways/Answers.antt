use Rattle.both_ways.proofs.Ends.{fresh_end_alike}
use Rattle.both_ways.proofs.running.both_ways.Goals as goal

pub returns-clause-end_alike : goal.returns-clause-end_alike
returns-clause-end_alike g c is = fresh_end_alike g.R.Viewable g.R.Record.parsed g.R.Record.sort g.R.Record.era _ _ _ _ _ _ _ _ _ _ _ _ _ (rw is at c.run.ensures.ran)
