use Rattle.std.proofs.Common.{◌≡◌, ◌^◌, ◌≤◌, ◌∙◌, not, refl, sym, subst, ap, length, arith, rules}
use Rattle.std.specs.Prelude.{nat_lt}
use Rattle.std.specs.List.{AllByRecursion}
use Rattle.board.proofs.Laws.{in_order}
use Rattle.board.proofs.Sorting.{rises_filter, length_sorted}
use Rattle.board.specs.Asks.{is_background}
use Rattle.board.specs.Boards.{backgrounds, ancestries}
use Rattle.board.specs.Left.{shown}
use Rattle.board.specs.Sorting.{Rises}
use Rattle.row_board.proofs.Entries.{distinct_rows}
use Rattle.row_board.specs.Boards.{open_asks, rows_of}
use Rattle.row_board.specs.Entries.{asks_of as asks_in}
use Rattle.row_board.specs.declared.rows.RowBoard.{RowBoard}
use Rattle.asked.specs.Rows.{Fitting}
use Rattle.hosted.specs.Members.{Sound as StateSound}
use Rattle.state.specs.States.{held}
use Rattle.driven.specs.Members.{Sound, asks_of}
use Rattle.driven.proofs.Asks.{fit_rows, fit_filter, few_filter}
use Rattle.driven.proofs.Kept.{asks_kept, member_kept}
use Rattle.driven.proofs.Written.{fewer}
use Rattle.driven.proofs.keeping.keep.Goals as goal

rises : (s : RowBoard) → Rises (shown (open_asks s))
rises s = rises_filter (λ o. nat_lt o.view (2 ^ 64)) (open_asks s) (in_order (asks_in (rows_of s))).0

fit : (s : RowBoard) → AllByRecursion Fitting (shown (open_asks s))
fit s = fit_filter (λ o. nat_lt o.view (2 ^ 64)) (open_asks s) (fit_rows (rows_of s))

background_few : (s : RowBoard) → length (backgrounds (shown (open_asks s))) ≤ 256
background_few s = omega (arith, few_filter (λ o. is_background o.ask) (λ o. nat_lt o.view (2 ^ 64)) (open_asks s), length_sorted (λ o. is_background o.ask) (asks_in (rows_of s)) (distinct_rows (rows_of s) s.apart), s.background_few)

ancestry_few : (s : RowBoard) → length (ancestries (shown (open_asks s))) ≤ 64
ancestry_few s = omega (arith, few_filter (λ o. not (is_background o.ask)) (λ o. nat_lt o.view (2 ^ 64)) (open_asks s), length_sorted (λ o. not (is_background o.ask)) (asks_in (rows_of s)) (distinct_rows (rows_of s) s.apart), s.ancestry_few)

pub returns-clause-value : goal.returns-clause-value
returns-clause-value c =
    let few = fewer (λ o. nat_lt o.view (2 ^ 64)) (open_asks c.args.board.now) in
    let len = c.len-count.ensures in
    let written = c.write-written.ensures in
    let room : length (shown (open_asks c.args.board.now)) ≤ length c.as_mut_slice.result.now = search rules in
    let least : c.min.result ≡ length (shown (open_asks c.args.board.now)) = let all = written.count room in let m = c.min.ensures in grind (arith, m) in
    rw (c.keep.ensures.head, c.keep.ensures.rows, written.rows room, c.as_mut_slice.ensures.value, least) refl

pub returns-clause-values : goal.returns-clause-values
returns-clause-values c = c.keep.ensures.values

pub returns-clause-asks : goal.returns-clause-asks
returns-clause-asks c =
    let b = c.args.board.now in
    ap asks_of (returns-clause-value c) ∙ asks_kept c.args.member.now (held c.args.state.now) (shown (open_asks b)) (rises b) (fit b) (background_few b) (ancestry_few b)

pub returns-clause-sound : goal.returns-clause-sound
returns-clause-sound c before same =
    let b = c.args.board.now in
    let s = held c.args.state.now in
    let state : StateSound c.keep.new.head c.keep.new.rows = c.keep.ensures.sound same in
    let kept = member_kept c.args.member.now s (shown (open_asks b)) (rises b) (fit b) (background_few b) (ancestry_few b) (rw (sym c.keep.ensures.head, sym c.keep.ensures.rows) state) before.seats in
    subst Sound (sym (returns-clause-value c)) kept
