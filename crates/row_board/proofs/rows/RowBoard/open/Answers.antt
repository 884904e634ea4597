use Rattle.std.proofs.Common.{◌≡◌, ℕ, ◌+◌, ◌<◌, true, false, eqb, None, take, set, length, ap, sym, subst, ◌∙◌, arith}
use Rattle.std.proofs.lemmas.List.{length-set, length-take-le}
use Rattle.std.specs.List.{position}
use Rattle.board.specs.Asks.{is_background}
use Rattle.board.specs.Boards.{is_open, backgrounds, ancestries}
use Rattle.board.specs.declared.ask.Ask.{Ask}
use Rattle.board.specs.Sorting.{sorted}
use Rattle.row_board.specs.Boards.{rows_of, open_asks}
use Rattle.row_board.specs.Entries.{asks_of}
use Rattle.row_board.specs.Rows.{fresh, with_ask}
use Rattle.row_board.specs.declared.rows.RowBoard.{RowBoard}
use Rattle.row_board.proofs.Keeping.{Kept, Room, room_for, row_absent, room_in_order, set_rows, push_rows}
use Rattle.row_board.proofs.rows.RowBoard.open.Goals as goal

kept_by : (s : RowBoard) → Kept (rows_of s)
kept_by s = record { apart = s.apart; filled = s.filled; background_few = s.background_few; ancestry_few = s.ancestry_few }

room_by : (s : RowBoard) (v : ℕ) (a : Ask) → (is_background a ≡ true → is_open v a (open_asks s) ≡ false → length (backgrounds (open_asks s)) < 256) → (is_background a ≡ false → is_open v a (open_asks s) ≡ false → length (ancestries (open_asks s)) < 64) → Room v a (rows_of s)
room_by s v a b c = room_in_order v a (rows_of s) s.apart b c

pub invariant_of-self : goal.invariant_of-self
invariant_of-self c =
    let s = c.args.self.now in
    let r = room_by s c.args.view c.args.ask c.requires.background_room c.requires.ancestry_room in
    let p = set_rows c.args.view c.args.ask c.args.target s.rows.now s.len c.in-Some.at (fresh 0) s.fits c.requires.fitting (kept_by s) r (sym c.find.ensures ∙ c.in-Some.is) in
    let k = subst (λ rs. Kept (take s.len rs)) (sym c.open_at.ensures) p.0 in
    record {
      fits = omega (arith, s.fits);
      enough = omega (arith, s.enough);
      apart = k.apart;
      filled = k.filled;
      background_few = k.background_few;
      ancestry_few = k.ancestry_few;
    }

pub returns-in-Some : goal.returns-in-Some
returns-in-Some c =
    let s = c.args.self.now in
    let r = room_by s c.args.view c.args.ask c.requires.background_room c.requires.ancestry_room in
    let p = set_rows c.args.view c.args.ask c.args.target s.rows.now s.len c.in-Some.at (fresh 0) s.fits c.requires.fitting (kept_by s) r (sym c.find.ensures ∙ c.in-Some.is) in
    ap (λ rs. sorted (asks_of (take s.len rs))) c.open_at.ensures ∙ p.1

within : (s : RowBoard) (v : ℕ) (a : Ask) → Room v a (rows_of s) → position (λ r. eqb r.view v) (rows_of s) ≡ None → s.len < length s.rows.now
within s v a r p = omega (arith, room_for v a (rows_of s) (kept_by s) r (row_absent v (rows_of s) p), length-take-le s.len s.rows.now s.fits, s.enough)

pub bounds-self-len : goal.bounds-self-len
bounds-self-len c =
    let s = c.args.self.now in
    within s c.args.view c.args.ask (room_by s c.args.view c.args.ask c.requires.background_room c.requires.ancestry_room) (sym c.find.ensures ∙ c.in_default.is)

pub invariant_of-self-2 : goal.invariant_of-self-2
invariant_of-self-2 c =
    let s = c.args.self.now in
    let r = room_by s c.args.view c.args.ask c.requires.background_room c.requires.ancestry_room in
    let none = sym c.find.ensures ∙ c.in_default.is in
    let low = within s c.args.view c.args.ask r none in
    let p = push_rows c.args.view c.args.ask c.args.target s.rows.now s.len low c.requires.fitting (kept_by s) r none in
    let row : c.open.new.self ≡ with_ask c.args.ask c.args.target (fresh c.args.view) = c.open.ensures ∙ ap (with_ask c.args.ask c.args.target) c.new-row.ensures in
    let k = subst (λ x. Kept (take (s.len + 1) (set s.rows.now s.len x))) (sym row) p.0 in
    record {
      fits = omega (arith, low, length-set s.rows.now s.len c.open.new.self);
      enough = omega (arith, s.enough, length-set s.rows.now s.len c.open.new.self);
      apart = k.apart;
      filled = k.filled;
      background_few = k.background_few;
      ancestry_few = k.ancestry_few;
    }

pub returns : goal.returns
returns c =
    let s = c.args.self.now in
    let r = room_by s c.args.view c.args.ask c.requires.background_room c.requires.ancestry_room in
    let none = sym c.find.ensures ∙ c.in_default.is in
    let p = push_rows c.args.view c.args.ask c.args.target s.rows.now s.len (within s c.args.view c.args.ask r none) c.requires.fitting (kept_by s) r none in
    let row : c.open.new.self ≡ with_ask c.args.ask c.args.target (fresh c.args.view) = c.open.ensures ∙ ap (with_ask c.args.ask c.args.target) c.new-row.ensures in
    ap (λ x. sorted (asks_of (take (s.len + 1) (set s.rows.now s.len x)))) row ∙ p.1
