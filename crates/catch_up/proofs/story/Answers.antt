use Rattle.std.proofs.Common.{◌++◌, refl}
use Rattle.std.specs.Prelude.{codes}
use Rattle.std.proofs.KnownBytes.{Appends-trans}
use Rattle.std.specs.Io.KnownBytes.{Appends}
use Rattle.catching_up.specs.Telling.{told_text}
use Rattle.catch_up.proofs.story.Goals as goal

pub returns : goal.returns
returns g c =
    let peer = c.replay.new.member in
    let r = c.in_ok-replay.ensures.replayed in
    let s = c.in_ok-catch_up.ensures.caught_up in
    let told = told_text g.C.Board.asks peer in
    let u = g.W.Write.contents c.args.out.now in
    let v = g.W.Write.contents c.writeln.new.self in
    let w = g.W.Write.contents c.replay.new.out in
    let x = g.W.Write.contents c.tell.new.out in
    let y = g.W.Write.contents c.writeln-2.new.self in
    let z = g.W.Write.contents c.catch_up.new.out in
    let first : Appends u v (codes "the peer\n") = c.in_ok-writeln.ensures.bytes in
    let second : Appends x y (codes "the member\n") = c.in_ok-writeln-2.ensures.bytes in
    let own = c.fresh-member.ensures in
    let theirs = c.fresh-peer.ensures in
    record {
      text = codes "the peer\n" ++ (r.text ++ (told ++ (codes "the member\n" ++ s.text)));
      written = Appends-trans u v z (codes "the peer\n") (r.text ++ (told ++ (codes "the member\n" ++ s.text))) first
          (Appends-trans v w z r.text (told ++ (codes "the member\n" ++ s.text)) r.written
          (Appends-trans w x z told (codes "the member\n" ++ s.text) c.in_ok-tell.ensures
          (Appends-trans x y z (codes "the member\n") s.text second s.written)));
      told = record {
        admitted = c.admitted-admitted.result;
        as_here = c.admitted-admitted.ensures;
        new_peer = c.fresh-peer.result;
        peer_begins = record {
          values = theirs.values;
          term_length = theirs.fixed.0;
          epoch = theirs.fixed.1;
          verifier = theirs.fixed.2;
          seats = theirs.fixed.3;
          board_is = theirs.board;
          no_effects = theirs.empty;
          nothing_waits = theirs.queue;
          fit = theirs.fits;
          room = theirs.room;
        };
        peer = peer;
        first = r.text;
        replayed = r.told;
        member = c.fresh-member.result;
        begins = record {
          values = own.values;
          term_length = own.fixed.0;
          epoch = own.fixed.1;
          verifier = own.fixed.2;
          seats = own.fixed.3;
          board_is = own.board;
          no_effects = own.empty;
          nothing_waits = own.queue;
          fit = own.fits;
          room = own.room;
        };
        last = c.catch_up.new.member;
        summary = c.in_ok-catch_up.field-0;
        second = s.text;
        caught_up = s.told;
        is = refl;
      };
    }
