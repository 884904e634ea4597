use Rattle.history.proofs.Points.{resolved_point}
use Rattle.history.proofs.used.Resolver.resolve.Goals as goal

pub returns-clause-every_history_goes_on : goal.returns-clause-every_history_goes_on
returns-clause-every_history_goes_on g c = resolved_point g.R.Record.sort g.R.Record.era _ g.B.Board.asks _ _ _ _ _ _ _ c.resolve.ensures.answer c.resolve.ensures.outcome
