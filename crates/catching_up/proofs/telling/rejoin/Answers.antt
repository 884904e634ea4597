use Rattle.std.proofs.Common.{◌++◌, refl}
use Rattle.std.proofs.KnownBytes.{Appends-trans}
use Rattle.std.specs.Io.KnownBytes.{Appends}
use Rattle.peer_rounds.specs.Rounds.{Wrote}
use Rattle.catching_up.specs.Telling.{told_text, Rejoined}
use Rattle.catching_up.proofs.Writing.{on_ok}
use Rattle.catching_up.proofs.telling.rejoin.Goals as goal

pub returns-clause-rejoined : goal.returns-clause-rejoined
returns-clause-rejoined g c =
    let asks = g.B.Board.asks in
    let back = c.replay.new.member in
    let there = c.learn.new.member in
    let r = c.in_ok-replay.ensures.replayed in
    let l = c.in_ok-learn.ensures.learned in
    let u = g.W.Write.contents c.args.out.now in
    let v = g.W.Write.contents c.replay.new.out in
    let w = g.W.Write.contents c.tell.new.out in
    let x = g.W.Write.contents c.learn.new.out in
    let y = g.W.Write.contents c.tell-2.new.out in
    on_ok c.tell-2.result (Appends x y (told_text asks there)) (Wrote u y (Rejoined asks c.args.journal.now c.args.news c.args.member.now there))
    (λ last. record {
      text = r.text ++ (told_text asks back ++ (l.text ++ told_text asks there));
      written = Appends-trans u v y r.text (told_text asks back ++ (l.text ++ told_text asks there)) r.written
          (Appends-trans v w y (told_text asks back) (l.text ++ told_text asks there) c.in_ok-tell.ensures (Appends-trans w x y l.text (told_text asks there) l.written last));
      told = record { back = back; first = r.text; replayed = r.told; second = l.text; learned = l.told; is = refl };
    })
    c.tell-2.ensures
