use Rattle.std.proofs.Common.{◌++◌, refl}
use Rattle.std.proofs.KnownBytes.{Appends-trans}
use Rattle.catching_up.specs.Telling.{closing_text}
use Rattle.catching_up.proofs.catching.catch_up.Goals as goal

pub returns-clause-caught_up : goal.returns-clause-caught_up
returns-clause-caught_up g c =
    let r = c.in_ok-rejoin.ensures.rejoined in
    let s = c.in_ok-summary.ensures.rounds in
    let last = closing_text g.B.Board.asks c.in_ok-summary.summary c.run_rounds.new.member in
    let u = g.W.Write.contents c.args.out.now in
    let v = g.W.Write.contents c.rejoin.new.out in
    let w = g.W.Write.contents c.run_rounds.new.out in
    let x = g.W.Write.contents c.close.new.out in
    record {
      text = r.text ++ (s.text ++ last);
      written = Appends-trans u v x r.text (s.text ++ last) r.written (Appends-trans v w x s.text last s.written c.in_ok-close.ensures);
      told = record { asking = c.rejoin.new.member; first = r.text; rejoined = r.told; second = s.text; rounds = s.told; is = refl };
    }
