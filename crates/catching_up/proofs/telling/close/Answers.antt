use Rattle.std.proofs.Common.{rules, subst, [], ◌∷◌, ◌++◌}
use Rattle.std.proofs.KnownBytes.{Appends-trans}
use Rattle.std.specs.Io.KnownBytes.{Appends}
use Rattle.catching_up.specs.Telling.{told_text, closing_text}
use Rattle.catching_up.specs.Texts.{standing_text}
use Rattle.peer_rounds.specs.Texts.{summary_text}
use Rattle.catching_up.proofs.Writing.{on_ok}
use Rattle.catching_up.proofs.telling.close.Goals as goal

pub returns : goal.returns
returns g c =
    let told = told_text g.B.Board.asks c.args.member.now in
    let u = g.W.Write.contents c.args.out.now in
    let v = g.W.Write.contents c.writeln.new.self in
    let w = g.W.Write.contents c.tell.new.out in
    let head = summary_text c.args.summary ++ (10 ∷ (standing_text c.how_far-standing.result ++ 10 ∷ [])) in
    let first : Appends u v head = search rules in
    on_ok c.tell.result (Appends v w told) (Appends u w (closing_text g.B.Board.asks c.args.summary c.args.member.now))
    (λ last. subst (λ d. Appends u w ((summary_text c.args.summary ++ (10 ∷ (standing_text d ++ 10 ∷ []))) ++ told)) c.how_far-standing.ensures.value (Appends-trans u v w head told first last))
    c.tell.ensures
