use Rattle.history.proofs.Points.{replayed_point}
use Rattle.history.proofs.used.Resolver.replayed.Goals as goal

pub returns-clause-every_history_goes_on : goal.returns-clause-every_history_goes_on
returns-clause-every_history_goes_on g c = replayed_point g.R.Record.sort g.R.Record.era g.B.Board.asks _ _ _ _ _ _ _ _ c.replayed.ensures.answer c.replayed.ensures.outcome
