use Rattle.history.proofs.Points.{updated_point}
use Rattle.history.proofs.used.Resolver.updated.Goals as goal

pub returns-clause-every_history_goes_on : goal.returns-clause-every_history_goes_on
returns-clause-every_history_goes_on g c = updated_point g.R.Record.sort g.R.Record.era g.B.Board.asks _ _ _ _ _ _ _ _ _ c.updated.ensures.answer c.updated.ensures.outcome
