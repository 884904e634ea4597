use Rattle.std.proofs.Common.{rules, get_or, None}
use Rattle.std.proofs.lemmas.List.Filters.{FiltersInPlace-more_no, FiltersInPlace-more_set}
use Rattle.board.specs.declared.open.Open.{Open}
use Rattle.board.specs.declared.ask.Ask.TheVariants.{Background}
use Rattle.list_board.proofs.asking.keep.Goals as goal
use Rattle.list_board.proofs.asking.keep.Goals.{then-not-ends, else-not-ends}

pub loop-i-preserved : goal.loop-i-preserved
loop-i-preserved c =
    let x : Open = get_or c.loop-i.list c.loop-i.i (record { view = 0; ask = Background; target = None }) in
    elim c.if-not-ends.branch [
      | then-not-ends w ↦ rw (w.list-is, w.kept-is) (FiltersInPlace-more_set {x = x} c.loop-i.invariant (search rules) (search rules) (search rules))
      | else-not-ends w ↦ rw (w.list-is, w.kept-is) (FiltersInPlace-more_no {x = x} c.loop-i.invariant (search rules) (search rules) (search rules))
    ]
