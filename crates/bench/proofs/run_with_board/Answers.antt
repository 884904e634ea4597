use Rattle.std.proofs.Common.{ap, subst, sym}
use Rattle.bench.specs.Boards.{WholeOn}
use Rattle.board.specs.Sorting.{sorted}
use Rattle.row_board.specs.Entries.{asks_of}
use Rattle.bench.proofs.run_with_board.Goals as goal

pub returns-in-Rows : goal.returns-in-Rows
unfolding sorted
returns-in-Rows c =
    let stream = c.args.stream.now in
    subst (λ k. WholeOn k stream.header stream.steps.now c.run.result) (sym c.in-Rows.is) (c.new.result, ap (λ rows. sorted (asks_of rows)) c.new.ensures, c.run.ensures)

pub returns-in-List : goal.returns-in-List
unfolding sorted
returns-in-List c =
    let stream = c.args.stream.now in
    subst (λ k. WholeOn k stream.header stream.steps.now c.run-in-List.result) (sym c.in-List.is) (c.new-in-List.result, ap sorted c.new-in-List.ensures, c.run-in-List.ensures)
