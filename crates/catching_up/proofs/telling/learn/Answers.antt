use Rattle.std.proofs.Common.{rules, refl, OnOk}
use Rattle.std.specs.Io.KnownBytes.{Appends}
use Rattle.peer_rounds.specs.Rounds.{Wrote}
use Rattle.catching_up.specs.Telling.{learned_line, Learned}
use Rattle.catching_up.proofs.Writing.{on_ok}
use Rattle.catching_up.proofs.telling.learn.Goals as goal

pub returns-clause-learned : goal.returns-clause-learned
returns-clause-learned g c =
    let u = g.W.Write.contents c.args.out.now in
    let v = g.W.Write.contents c.writeln.new.self in
    let line = learned_line c.args.entry c.take_in-answer.result in
    let bytes : OnOk c.writeln.result (Appends u v line) = search rules in
    on_ok c.writeln.result (Appends u v line) (Wrote u v (Learned g.B.Board.asks c.args.entry c.args.member.now c.take_in-answer.new.member))
    (λ wrote. record { text = line; written = wrote; told = record { answer = c.take_in-answer.result; called = c.take_in-answer.ensures.called; is = refl } })
    bytes
