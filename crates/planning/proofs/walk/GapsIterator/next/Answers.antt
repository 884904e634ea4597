use Rattle.std.proofs.Common.{◌≡◌, true, false, not, length, sym, ap, ◌∙◌, arith}
use Rattle.cover.specs.Covers.{covered}
use Rattle.table.specs.Tables.{entries}
use Rattle.terms.specs.Terms.{views}
use Rattle.terms.proofs.Laws.{least_next}
use Rattle.planning.proofs.Walking.{none_left, open_left, covered_left}
use Rattle.planning.proofs.walk.GapsIterator.next.Goals as goal

pub returns-then-is_none : goal.returns-then-is_none
returns-then-is_none g c =
    let s = c.loop-self.self in
    let f : covered g.R.Viewable.viewed (views s.term_length) s.anchor (entries s.nullifications.now) ≡ false = sym c.covering.ensures.covered ∙ c.is_none.ensures ∙ ap not c.if-is_none.true in
    let steps = sym c.loop-self.invariant ∙ open_left s.nullifications.now s.term_length s.anchor s.current c.following-self.result c.following-self.ensures c.loop-self-test.true f in
    record { steps = steps; goes = record { on = λ _. (tt, tt, omega (arith, ap length steps)); keeps = tt; rests = λ _. tt } }

pub loop-self-smaller : goal.loop-self-smaller
loop-self-smaller g c =
    let s = c.loop-self.self in
    let later = (least_next (views s.term_length) s.term_length.positive s.anchor).1 in
    omega (arith, c.following-self.ensures, c.loop-self-test.true)

pub loop-self-preserved : goal.loop-self-preserved
loop-self-preserved g c =
    let s = c.loop-self.self in
    let t : covered g.R.Viewable.viewed (views s.term_length) s.anchor (entries s.nullifications.now) ≡ true = sym c.covering.ensures.covered ∙ c.is_none.ensures ∙ ap not c.if-is_none.false in
    sym (covered_left s.nullifications.now s.term_length s.anchor s.current c.following-self.result c.following-self.ensures c.loop-self-test.true t) ∙ c.loop-self.invariant

pub returns-clause-steps : goal.returns-clause-steps
returns-clause-steps g c =
    let s = c.loop-self.self in
    let none = none_left s.nullifications.now s.term_length s.anchor s.current c.loop-self-test.false in
    (sym c.loop-self.invariant ∙ none, none)
