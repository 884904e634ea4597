use Rattle.terms.specs.Terms.{views}
use Rattle.terms.proofs.Laws.{covers_between, covers_on}
use Rattle.terms.proofs.TermLength.covers.Goals as goal

pub returns-then-nullified-view-clause-covers_between : goal.returns-then-nullified-view-clause-covers_between
returns-then-nullified-view-clause-covers_between c = covers_between (views c.args.self) c.args.self.positive

pub returns-then-nullified-view-clause-covers_on : goal.returns-then-nullified-view-clause-covers_on
returns-then-nullified-view-clause-covers_on c = covers_on (views c.args.self) c.args.self.positive

pub returns-else-nullified-view-clause-covers_between : goal.returns-else-nullified-view-clause-covers_between
returns-else-nullified-view-clause-covers_between c = covers_between (views c.args.self) c.args.self.positive

pub returns-else-nullified-view-clause-covers_on : goal.returns-else-nullified-view-clause-covers_on
returns-else-nullified-view-clause-covers_on c = covers_on (views c.args.self) c.args.self.positive
