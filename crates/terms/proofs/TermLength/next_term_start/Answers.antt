use Rattle.terms.specs.Terms.{views}
use Rattle.terms.proofs.Laws.{least_next}
use Rattle.terms.proofs.TermLength.next_term_start.Goals as goal

pub returns-in_err-term_end-clause-least_next : goal.returns-in_err-term_end-clause-least_next
returns-in_err-term_end-clause-least_next c = least_next (views c.args.self) c.args.self.positive

pub returns-clause-least_next : goal.returns-clause-least_next
returns-clause-least_next c = least_next (views c.args.self) c.args.self.positive
