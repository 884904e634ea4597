use Rattle.std.proofs.Common.{◌+◌, ◌∙◌, sym, ap, drop}
use Rattle.std.proofs.lemmas.List.{drop_all}
use Rattle.asked.specs.declared.row.Asked.{Asked}
use Rattle.asked.specs.Lists.{appended}
use Rattle.asked.proofs.Steps.{ends, unread, not_last, more}
use Rattle.asked.proofs.filling.fill.Goals as goal

abbrev blank : Asked
blank = record { view = 0; rank = 0; targeted = 0; target = 0 }

pub returns-in_default : goal.returns-in_default
returns-in_default g c =
    sym c.loop-asked.invariant ∙ unread (g.B.Board.asks c.loop-asked.board) c.args.asks.now c.loop-asked.asked-index blank c.loop-asked-test.true (sym c.read.ensures.value ∙ c.in_default.is)

pub returns-then-not-comes_last : goal.returns-then-not-comes_last
returns-then-not-comes_last g c =
    sym c.loop-asked.invariant ∙ not_last (g.B.Board.asks c.loop-asked.board) c.args.asks.now c.loop-asked.asked-index blank c.loop-asked-test.true c.in-Some.open (sym c.in-Some.ensures.value) (sym c.if-not-comes_last.ensures)

pub loop-asked-preserved : goal.loop-asked-preserved
loop-asked-preserved g c =
    let rest = drop (c.loop-asked.asked-index + 1) c.args.asks.now in
    ap (λ os. appended os rest) c.place.ensures ∙ (sym (more (g.B.Board.asks c.loop-asked.board) c.args.asks.now c.loop-asked.asked-index blank c.loop-asked-test.true c.in-Some.open (sym c.in-Some.ensures.value) (sym c.if-not-comes_last.ensures)) ∙ c.loop-asked.invariant)

pub returns : goal.returns
returns g c =
    sym c.loop-asked.invariant ∙ (ap (appended (g.B.Board.asks c.loop-asked.board)) (drop_all c.loop-asked.asked-index c.args.asks.now c.loop-asked-test.false) ∙ ends (g.B.Board.asks c.loop-asked.board))
