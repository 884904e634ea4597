use Rattle.std.proofs.Common.{◌∙◌}
use Rattle.asked.proofs.Last.{placed_background, placed_ancestry, opened_ok}
use Rattle.asked.proofs.filling.place.Goals as goal

pub returns-in-Background : goal.returns-in-Background
returns-in-Background g c = c.fetch.ensures ∙ placed_background c.args.asked (g.B.Board.asks c.args.board.now) c.in-Background.is c.requires.fitting c.requires.last

pub unwrap-requires : goal.unwrap-requires
unwrap-requires g c =
    let last = placed_ancestry c.args.asked c.in-Ancestry.kind (g.B.Board.asks c.args.board.now) c.in-Ancestry.is c.requires.last in
    (opened_ok c.request.result _ _ _ last.0 (λ f h. h.0) c.request.ensures).0

pub returns-in-Ancestry : goal.returns-in-Ancestry
returns-in-Ancestry g c =
    let last = placed_ancestry c.args.asked c.in-Ancestry.kind (g.B.Board.asks c.args.board.now) c.in-Ancestry.is c.requires.last in
    (opened_ok c.request.result _ _ _ last.0 (λ f h. h.0) c.request.ensures).1 ∙ last.1
