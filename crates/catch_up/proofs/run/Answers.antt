use Rattle.std.proofs.Common.{◌++◌, take, refl}
use Rattle.std.specs.Prelude.{codes}
use Rattle.std.proofs.KnownBytes.{Appends-trans}
use Rattle.std.specs.Io.KnownBytes.{Appends}
use Rattle.catch_up.specs.Stories.{StoryOn, Shown}
use Rattle.catch_up.specs.declared.TheConstants.{RECORD}
use Rattle.catch_up.proofs.Writing.{if_ok}
use Rattle.peer_rounds.specs.Rounds.{Wrote}
use Rattle.row_board.specs.Boards.{open_asks}
use Rattle.catch_up.proofs.run.Goals as goal

pub returns : goal.returns
returns g c =
    let rows = c.in_ok-on_rows.ensures in
    let list = c.in_ok-on_list.ensures in
    let t = g.W.Write.contents c.args.out.now in
    let u = g.W.Write.contents c.writeln.new.self in
    let v = g.W.Write.contents c.on_rows.new.out in
    let w = g.W.Write.contents c.writeln-2.new.self in
    let x = g.W.Write.contents c.on_list.new.out in
    let y = g.W.Write.contents c.writeln-3.new.self in
    let z = g.W.Write.contents c.on_rows-2.new.out in
    let one = codes "== a board of rows, and a peer that holds all\n" in
    let two = codes "\n== a board in order of arrival, and a peer that holds all\n" in
    let three = codes "\n== a peer that lacks the nullification of view 25\n" in
    let first : Appends t u one = c.in_ok-writeln.ensures.bytes in
    let second : Appends v w two = c.in_ok-writeln-2.ensures.bytes in
    let third : Appends x y three = c.in_ok-writeln-3.ensures.bytes in
    if_ok c.on_rows-2.result (Wrote y z (StoryOn open_asks (take 11 RECORD))) (Wrote t z Shown)
    (λ last. record {
      text = one ++ (rows.text ++ (two ++ (list.text ++ (three ++ last.text))));
      written = Appends-trans t u z one (rows.text ++ (two ++ (list.text ++ (three ++ last.text)))) first
          (Appends-trans u v z rows.text (two ++ (list.text ++ (three ++ last.text))) rows.written
          (Appends-trans v w z two (list.text ++ (three ++ last.text)) second
          (Appends-trans w x z list.text (three ++ last.text) list.written
          (Appends-trans x y z three last.text third last.written))));
      told = record { rows = rows.text; on_rows = rows.told; list = list.text; on_list = list.told; lacking = last.text; on_lacking = last.told; is = refl };
    })
    c.on_rows-2.ensures
