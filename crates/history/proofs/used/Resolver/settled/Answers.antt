use Rattle.history.proofs.Points.{settled_point}
use Rattle.history.proofs.used.Resolver.settled.Goals as goal

pub returns-clause-every_history_goes_on : goal.returns-clause-every_history_goes_on
returns-clause-every_history_goes_on g c = settled_point g.R.Record.sort g.R.Record.era _ _ _ _ c.settled.ensures
