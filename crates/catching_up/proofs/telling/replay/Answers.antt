use Rattle.std.proofs.Common.{rules, ◌++◌, length, refl}
use Rattle.std.proofs.KnownBytes.{Appends-trans}
use Rattle.std.specs.Io.KnownBytes.{Appends}
use Rattle.peer_rounds.specs.Rounds.{Wrote}
use Rattle.catching_up.specs.Telling.{journal_line, Learned, Replayed}
use Rattle.catching_up.specs.declared.entry.Entry.TheVariants.{EndOfReplay}
use Rattle.catching_up.proofs.Writing.{on_ok}
use Rattle.catching_up.proofs.telling.replay.Goals as goal

pub returns-clause-replayed : goal.returns-clause-replayed
returns-clause-replayed g c =
    let u = g.W.Write.contents c.args.out.now in
    let v = g.W.Write.contents c.writeln.new.self in
    let w = g.W.Write.contents c.learn.new.out in
    let line = journal_line (length c.args.journal.now) c.take_in_all-refused.result in
    let first : Appends u v line = search rules in
    on_ok c.learn.result (Wrote v w (Learned g.B.Board.asks EndOfReplay c.take_in_all-refused.new.member c.learn.new.member)) (Wrote u w (Replayed g.B.Board.asks c.args.journal.now c.args.member.now c.learn.new.member))
    (λ l. record {
      text = line ++ l.text;
      written = Appends-trans u v w line l.text first l.written;
      told = record { between = c.take_in_all-refused.new.member; refused = c.take_in_all-refused.result; taken_in = c.take_in_all-refused.ensures.taken_in; said = l.text; ended = l.told; is = refl };
    })
    c.learn.ensures.learned
