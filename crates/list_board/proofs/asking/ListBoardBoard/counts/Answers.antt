use Rattle.std.proofs.Common.{◌≡◌, ◌-◌, length, arith, subst}
use Rattle.std.proofs.lemmas.List.{length-take-le}
use Rattle.board.specs.Boards.{counted}
use Rattle.list_board.specs.Lists.{entries, asks_of}
use Rattle.list_board.proofs.Entries.{both_sorts, counted_sorted}
use Rattle.list_board.proofs.asking.ListBoardBoard.counts.Goals as goal

pub overflow_sub-result : goal.overflow_sub-result
overflow_sub-result c =
    let s = c.args.self.now in
    omega (arith, c.count_background-background.ensures, both_sorts (entries s), length-take-le s.len s.list.now s.fits)

pub returns : goal.returns
returns c =
    let s = c.args.self.now in
    let n = c.count_background-background.result in
    let long : length (entries s) ≡ s.len = length-take-le s.len s.list.now s.fits in
    subst (λ m. record { background = n; ancestry = m - n } ≡ counted (asks_of s)) long (counted_sorted (entries s) n s.apart c.count_background-background.ensures)
