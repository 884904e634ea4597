use Rattle.std.proofs.Common.{refl}
use Rattle.board.specs.Sorting.{lookup as ask_of, placed}
use Rattle.cover.specs.Covers.{cover, covered}
use Rattle.history.specs.Calls.{some, highest as highest_said, last_finalization, last_passed, highest_cover, serves}
use Rattle.history.specs.Rules.{all_in}
use Rattle.planning.specs.Gaps.{gaps, first_start, landing, pulled}
use Rattle.resolver.specs.Applied.{in_turn}
use Rattle.state.specs.Serving.{served}
use Rattle.store.specs.Fresh.{fresh}
use Rattle.store.specs.Steps.{nullified, nullified_effects, finalized_at, pruned, raised, raised_effects, finalization_taken, finalization_effects, planned, planned_effects, before_planning, certified_at, passing, failed_at, failing, failing_effects, failed_bare}
use Rattle.table.specs.Rows.{lookup as row_of, highest as highest_row, without, with_row, kept}
use Rattle.terms.specs.Terms.{start, end, next, is_start, same_term, covering}
use Rattle.cases.proofs.worked_cases.Goals as goal

pub returns-clause-every_case_holds : goal.returns-clause-every_case_holds
unfolding
    start end next is_start same_term covering
    gaps first_start landing pulled
    row_of highest_row without with_row kept cover covered
    fresh nullified nullified_effects finalized_at pruned raised raised_effects finalization_taken finalization_effects planned planned_effects before_planning certified_at passing failed_at failing failing_effects failed_bare
    served in_turn ask_of placed
    some highest_said last_finalization last_passed highest_cover serves
returns-clause-every_case_holds c = refl

pub returns-clause-every_call_is_accepted : goal.returns-clause-every_call_is_accepted
unfolding
    start end next is_start same_term covering
    gaps
    some highest_said last_passed all_in
returns-clause-every_call_is_accepted c = refl
