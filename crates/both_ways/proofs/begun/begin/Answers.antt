use Rattle.both_ways.proofs.Ends.{end_alike}
use Rattle.both_ways.proofs.begun.begin.Goals as goal

pub returns-clause-direct_and_queued_end_alike : goal.returns-clause-direct_and_queued_end_alike
returns-clause-direct_and_queued_end_alike g c read = end_alike g.R.Viewable read g.R.Record.sort g.R.Record.era
