use Rattle.std.proofs.Common.{not}
use Rattle.std.proofs.lemmas.List.Filters.{FiltersInPlace}
use Rattle.board.specs.Asks.{retires}
use Rattle.list_board.proofs.asking.keep.Given as goal

abbrev pub invariant-loop-i : goal.invariant-loop-i
invariant-loop-i l = FiltersInPlace (λ o. not (retires l.retire o)) l.initial.list l.list l.kept l.i
