use Rattle.board.proofs.Laws.{in_order, one_more, pushed, replaced, none_before, filtered, counted_alike, first_of_more}
use Rattle.board.proofs.open.Open.new.Goals as goal

pub returns-clause-in_order : goal.returns-clause-in_order
returns-clause-in_order c = in_order

pub returns-clause-one_more : goal.returns-clause-one_more
returns-clause-one_more c = one_more

pub returns-clause-pushed : goal.returns-clause-pushed
returns-clause-pushed c = pushed

pub returns-clause-replaced : goal.returns-clause-replaced
returns-clause-replaced c = replaced

pub returns-clause-filtered : goal.returns-clause-filtered
returns-clause-filtered c = filtered

pub returns-clause-counted_alike : goal.returns-clause-counted_alike
returns-clause-counted_alike c = counted_alike

pub returns-clause-first_of_more : goal.returns-clause-first_of_more
returns-clause-first_of_more c = first_of_more

pub returns-clause-none_before : goal.returns-clause-none_before
returns-clause-none_before c = none_before
