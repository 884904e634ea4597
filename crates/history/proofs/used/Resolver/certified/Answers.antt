use Rattle.history.proofs.Points.{certified_point}
use Rattle.history.proofs.used.Resolver.certified.Goals as goal

pub returns-clause-every_history_goes_on : goal.returns-clause-every_history_goes_on
returns-clause-every_history_goes_on g c = certified_point g.R.Record.sort g.R.Record.era g.B.Board.asks _ _ _ _ _ _ _ _ _ _ c.certified.ensures.answer c.certified.ensures.outcome
