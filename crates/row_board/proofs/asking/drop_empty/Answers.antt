use Rattle.std.proofs.Common.{rules, get_or}
use Rattle.std.proofs.lemmas.List.Filters.{FiltersInPlace-more_no, FiltersInPlace-more_set, FiltersInPlace-more_here}
use Rattle.row_board.specs.Rows.{fresh}
use Rattle.row_board.specs.declared.row.Row.{Row}
use Rattle.row_board.proofs.asking.drop_empty.Goals as goal
use Rattle.row_board.proofs.asking.drop_empty.Goals.{then-not-is_empty, then-kept-i, else-kept-i, else-not-is_empty}

pub loop-i-preserved : goal.loop-i-preserved
loop-i-preserved c =
    let x : Row = get_or c.loop-i.rows c.loop-i.i (fresh 0) in
    elim c.if-not-is_empty.branch [
      | then-not-is_empty w ↦ elim w.if-kept-i.branch [
        | then-kept-i u ↦ rw (w.rows-is, w.kept-is, u.rows-is) (FiltersInPlace-more_set {x = x} c.loop-i.invariant (search rules) (search rules) (search rules))
        | else-kept-i u ↦ rw (w.rows-is, w.kept-is, u.rows-is) (FiltersInPlace-more_here {x = x} c.loop-i.invariant (search rules) (search rules) (search rules) (search rules))
      ]
      | else-not-is_empty w ↦ rw (w.rows-is, w.kept-is) (FiltersInPlace-more_no {x = x} c.loop-i.invariant (search rules) (search rules) (search rules))
    ]
