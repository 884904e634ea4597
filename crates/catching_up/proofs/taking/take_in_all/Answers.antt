use Rattle.std.proofs.Common.{◌+◌, ◌≤◌, Ok, Err, Result, rules, take, sym, subst, arith}
use Rattle.std.proofs.lemmas.List.{take_more}
use Rattle.catching_up.specs.Entries.{TakenIn, none, more, one_if_refused}
use Rattle.catching_up.proofs.taking.take_in_all.Goals as goal
use Rattle.resolver.specs.declared.fault.Fault.{Fault}

at_most : (r : Result (Unit {0}) Fault) → one_if_refused r ≤ 1
at_most (Ok u) = omega arith
at_most (Err f) = omega arith

pub loop-entry-init : goal.loop-entry-init
loop-entry-init g c = (none, λ l. l, omega arith)

pub loop-entry-preserved : goal.loop-entry-preserved
loop-entry-preserved g c =
    let es = c.args.entries.now in
    let i = c.loop-entry.entry-index in
    let answer = c.take_in-answer.result in
    let one = c.one_if_refused-refused.ensures in
    let next = more _ answer c.loop-entry.invariant.0 c.take_in-answer.ensures.called in (
      subst (λ n. TakenIn g.B.Board.asks c.args.member.now (take (i + 1) es) c.take_in-answer.new.member (c.loop-entry.refused + n)) (sym one) (subst (λ xs. TakenIn g.B.Board.asks c.args.member.now xs c.take_in-answer.new.member (c.loop-entry.refused + one_if_refused answer)) (sym (take_more es i _ (search rules))) next),
      λ l. c.take_in-answer.ensures.lives (c.loop-entry.invariant.1 l),
      omega (arith, one, at_most answer, c.loop-entry.invariant.2),
    )
