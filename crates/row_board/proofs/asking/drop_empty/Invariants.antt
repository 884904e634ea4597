use Rattle.std.proofs.Common.{not}
use Rattle.std.proofs.lemmas.List.Filters.{FiltersInPlace}
use Rattle.row_board.specs.Rows.{is_bare}
use Rattle.row_board.proofs.asking.drop_empty.Given as goal

abbrev pub invariant-loop-i : goal.invariant-loop-i
invariant-loop-i l = FiltersInPlace (λ r. not (is_bare r)) l.initial.rows l.rows l.kept l.i
