use Rattle.history.proofs.Points.{made_point}
use Rattle.history.proofs.Uses.{law}
use Rattle.history.proofs.used.Resolver.new.Goals as goal

pub returns-clause-every_history_begins : goal.returns-clause-every_history_begins
returns-clause-every_history_begins g c = made_point g.R.Record.sort g.R.Record.era _ c.new.ensures.values

pub returns-clause-every_history_keeps_its_promises : goal.returns-clause-every_history_keeps_its_promises
returns-clause-every_history_keeps_its_promises g c = law g.R.Viewable g.R.Record.sort g.R.Record.era
