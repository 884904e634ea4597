use Rattle.std.proofs.Common.{ap}
use Rattle.board.specs.Sorting.{sorted}
use Rattle.catch_up.specs.Stories.{Story, StoryOn}
use Rattle.catch_up.proofs.Writing.{if_ok}
use Rattle.list_board.specs.Lists.{asks_of}
use Rattle.peer_rounds.specs.Rounds.{Wrote}
use Rattle.catch_up.proofs.on_list.Goals as goal

pub returns : goal.returns
unfolding sorted
returns g c =
    let u = g.W.Write.contents c.args.out.now in
    let v = g.W.Write.contents c.story.new.out in
    if_ok c.story.result (Wrote u v (Story asks_of asks_of c.new.result c.new-2.result c.args.entries.now)) (Wrote u v (StoryOn asks_of c.args.entries.now))
    (λ w. record {
      text = w.text;
      written = w.written;
      told = record {
        own = c.new.result;
        others = c.new-2.result;
        none_open = ap sorted c.new.ensures;
        none_of_theirs = ap sorted c.new-2.ensures;
        story = w.told;
      };
    })
    c.story.ensures
