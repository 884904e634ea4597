use Rattle.std.proofs.Common.{rules, ◌≡◌, ◌++◌, [], Some, subst, sym}
use Rattle.std.proofs.KnownBytes.{Appends-nil, Appends-trans}
use Rattle.std.specs.Io.KnownBytes.{Appends}
use Rattle.peer_rounds.specs.Rounds.{Puts, none, more, open_from}
use Rattle.peer_rounds.specs.Texts.{put_line}
use Rattle.peer_rounds.proofs.Ahead.{ahead}
use Rattle.peer_rounds.proofs.Closed.{settled_is_closed}
use Rattle.peer_rounds.proofs.Tallied.{nothing_counted}
use Rattle.peer_rounds.proofs.rounds.round.Goals as goal

pub loop-view-init : goal.loop-view-init
loop-view-init g c = (
  record {
    text = [];
    written = Appends-nil (g.W.Write.contents c.args.out.now);
    told = subst (λ t. Puts g.B.Board.asks c.args.peer.now c.args.member.now (Some 0) c.args.member.now t []) (sym (nothing_counted c.default-tally.result c.default-tally.ensures)) none;
  },
  λ l. l,
)

pub loop-view-smaller : goal.loop-view-smaller
loop-view-smaller g c =
    let up = ahead c.loop-view.from (g.B.Board.asks c.loop-view.member.board) c.in-Some.view (sym (c.in-Some.ensures)) (search rules) in
    rw c.following-from.ensures up

pub loop-view-preserved : goal.loop-view-preserved
loop-view-preserved g c =
    let w = c.loop-view.invariant.0 in
    let u = g.W.Write.contents c.args.out.now in
    let v = g.W.Write.contents c.loop-view.out in
    let x = g.W.Write.contents c.writeln.new.self in
    let found : open_from c.loop-view.from (g.B.Board.asks c.loop-view.member.board) ≡ Some c.in-Some.view = sym c.in-Some.ensures in
    let line : Appends v x (put_line c.in_ok-put.put) = search rules in (
      record {
        text = w.text ++ put_line c.in_ok-put.put;
        written = Appends-trans u v x w.text (put_line c.in_ok-put.put) w.written line;
        told = rw (c.following-from.ensures, c.with-tally.ensures, c.tally.ensures) (more c.in-Some.view c.in_ok-put.put c.put.new.member w.told found c.in_ok-put.ensures.put);
      },
      λ l. c.put.ensures.lives (c.loop-view.invariant.1 l),
    )

pub returns-clause-settled_is_closed : goal.returns-clause-settled_is_closed
returns-clause-settled_is_closed g c l = settled_is_closed g.B.Board.asks c.loop-view.member (c.loop-view.invariant.1 l)
