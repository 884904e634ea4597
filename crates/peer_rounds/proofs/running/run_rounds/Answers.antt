use Rattle.std.proofs.Common.{rules, ◌≡◌, ◌++◌, ◌+◌, ◌<◌, ℕ, true, false, [], Option, Some, None, IsSome, is_none, refl, subst, sym, arith}
use Rattle.std.proofs.KnownBytes.{Appends-nil, Appends-trans}
use Rattle.std.proofs.lemmas.Grind.{common_steps}
use Rattle.std.specs.Io.KnownBytes.{Appends}
use Rattle.peer_rounds.specs.Rounds.{open_from}
use Rattle.peer_rounds.specs.Runs.{Ran, none, more}
use Rattle.peer_rounds.specs.Texts.{round_line}
use Rattle.peer_rounds.proofs.Quiet.{lacks_nothing}
use Rattle.peer_rounds.proofs.Tallied.{nothing_counted}
use Rattle.peer_rounds.proofs.running.run_rounds.Goals as goal

some_of : (x : Option ℕ) → is_none x ≡ false → IsSome x
some_of None e = absurd (grind (arith, common_steps))
some_of (Some v) e = search rules

none_of : (x : Option ℕ) → is_none x ≡ true → x ≡ None
none_of None e = refl
none_of (Some v) e = absurd (grind (arith, common_steps))

pub returns-then-is_none-clause-nothing_missed : goal.returns-then-is_none-clause-nothing_missed
returns-then-is_none-clause-nothing_missed g c end l over =
    let m = c.loop-before.member in
    let none : open_from (Some 0) (g.B.Board.asks m.board) ≡ None = none_of _ (let e = c.next_open.ensures in let f = c.is_none.ensures in let h = c.if-is_none.true in grind (arith, common_steps)) in
    lacks_nothing g.B.Board.asks m none (c.loop-before.invariant.1 l) over

pub loop-before-init : goal.loop-before-init
loop-before-init g c = (
  record {
    text = [];
    written = Appends-nil (g.W.Write.contents c.args.out.now);
    told = subst (λ t. Ran g.B.Board.asks c.args.peer.now c.args.member.now 0 c.args.member.now t []) (sym (nothing_counted c.default-tally.result c.default-tally.ensures)) none;
  },
  λ l. l,
)

pub loop-before-preserved : goal.loop-before-preserved
loop-before-preserved g c =
    let n = c.loop-before.before in
    let said = c.loop-before.invariant.0 in
    let r = c.in_ok-one.ensures.round in
    let u = g.W.Write.contents c.args.out.now in
    let v = g.W.Write.contents c.loop-before.out in
    let w = g.W.Write.contents c.writeln.new.self in
    let x = g.W.Write.contents c.round.new.out in
    let head : Appends v w (round_line (n + 1)) = search rules in
    let some : IsSome (open_from (Some 0) (g.B.Board.asks c.loop-before.member.board)) = some_of _ (let e = c.next_open.ensures in let f = c.is_none.ensures in let h = c.if-is_none.false in grind (arith, common_steps)) in
    let settled : 0 < c.in_ok-one.one.settling = omega (arith, c.if-one-eq0.false) in (
      record {
        text = said.text ++ (round_line (n + 1) ++ r.text);
        written = Appends-trans u v x said.text (round_line (n + 1) ++ r.text) said.written (Appends-trans v w x (round_line (n + 1)) r.text head r.written);
        told = rw c.with-tally.ensures (more c.round.new.member c.in_ok-one.one r.text said.told some r.told settled);
      },
      λ l. c.round.ensures.lives (c.loop-before.invariant.1 l),
    )

pub returns-then-one-eq0-clause-rounds : goal.returns-then-one-eq0-clause-rounds
returns-then-one-eq0-clause-rounds g c =
    let n = c.loop-before.before in
    let said = c.loop-before.invariant.0 in
    let r = c.in_ok-one.ensures.round in
    let u = g.W.Write.contents c.args.out.now in
    let v = g.W.Write.contents c.loop-before.out in
    let w = g.W.Write.contents c.writeln.new.self in
    let x = g.W.Write.contents c.round.new.out in
    let head : Appends v w (round_line (n + 1)) = search rules in
    record {
      text = said.text ++ (round_line (n + 1) ++ r.text);
      written = Appends-trans u v x said.text (round_line (n + 1) ++ r.text) said.written (Appends-trans v w x (round_line (n + 1)) r.text head r.written);
      told = record {
        rounds = n;
        tally = c.loop-before.tally;
        standing = c.loop-before.member;
        said = said.text;
        ran = said.told;
        one = c.in_ok-one.one;
        lines = r.text;
        round = r.told;
        settled = c.if-one-eq0.true;
        number = refl;
        counted = c.with-tally.ensures;
        is = refl;
      };
    }
