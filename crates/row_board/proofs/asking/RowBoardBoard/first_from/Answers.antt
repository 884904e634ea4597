use Rattle.std.proofs.Common.{◌≡◌, Bool, true, get_or, ap, sym, ◌∙◌, rules}
use Rattle.std.specs.Prelude.{nat_le}
use Rattle.board.specs.Asks.{place, place_of}
use Rattle.board.specs.Sorting.{sorted}
use Rattle.board.specs.declared.open.Open.{Open}
use Rattle.row_board.specs.Entries.{views_apart, nearest}
use Rattle.row_board.specs.Rows.{fresh, asks_in}
use Rattle.row_board.proofs.Keeping.{first_more}
use Rattle.row_board.proofs.asking.RowBoardBoard.first_from.Goals as goal

pub loop-row-init : goal.loop-row-init
unfolding sorted
loop-row-init c = search rules

pub loop-row-preserved : goal.loop-row-preserved
loop-row-preserved c =
    let rs = c.as_slice-row-items.result.now in
    let i = c.loop-row.row-index in
    let p : Open → Bool = λ o. nat_le (place c.args.view c.args.ask) (place_of o) in
    let apart : views_apart rs ≡ true = ap views_apart c.as_slice-row-items.ensures ∙ c.args.self.now.apart in
    c.nearest-best.ensures ∙ (ap (λ b. nearest p b (asks_in (get_or rs i (fresh 0)))) c.loop-row.invariant ∙ sym (first_more p rs i (fresh 0) apart c.loop-row-test.true))
