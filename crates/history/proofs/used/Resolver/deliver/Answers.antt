use Rattle.history.proofs.Points.{delivered_point}
use Rattle.history.proofs.used.Resolver.deliver.Goals as goal

pub returns-clause-every_history_goes_on : goal.returns-clause-every_history_goes_on
returns-clause-every_history_goes_on g c = delivered_point g.R.Record.sort g.R.Record.era g.B.Board.asks _ _ _ _ _ _ _ _ _ _ _ _ c.deliver.ensures.answer c.deliver.ensures.outcome
