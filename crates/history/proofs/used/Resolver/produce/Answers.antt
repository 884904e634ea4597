use Rattle.history.proofs.Points.{produced_point}
use Rattle.history.proofs.used.Resolver.produce.Goals as goal

pub returns-clause-every_history_goes_on : goal.returns-clause-every_history_goes_on
returns-clause-every_history_goes_on g c = produced_point g.R.Record.sort g.R.Record.era _ _ _ _ _ c.produce.ensures.found c.produce.ensures.copied
