use Rattle.std.proofs.Common.{◌+◌, ◌^◌, ◌<◌, ◌∷◌, length, refl, sym, ap, ◌∙◌, rules, arith}
use Rattle.board.specs.Asks.{place}
use Rattle.board.specs.Left.{from_next}
use Rattle.board.proofs.Walking.{none_from, one_from, after}
use Rattle.board.proofs.walk.AsksIterator.next.Goals as goal

pub returns-in_default-clause-steps : goal.returns-in_default-clause-steps
returns-in_default-clause-steps g c =
    let os = g.B.Board.asks c.args.self.now.board.now in
    (ap (λ n. from_next n os) c.in_ok-view.was ∙ none_from (place c.in_ok-view.view c.in_ok-view.ask) os (sym c.first_from.ensures ∙ c.in_default.is), refl)

pub returns-clause-steps : goal.returns-clause-steps
returns-clause-steps g c =
    let s = c.args.self.now in
    let os = g.B.Board.asks s.board.now in
    let low : c.in-Some.open.view < 2 ^ 64 = search rules in
    ap (λ n. from_next n os) c.in_ok-view.was
    ∙ (one_from (place c.in_ok-view.view c.in_ok-view.ask) os c.in-Some.open (g.met.B.Board.rises s.board.now) (sym c.first_from.ensures ∙ c.in-Some.is) low
    ∙ ap (λ xs. c.in-Some.open ∷ xs) (after c.following-self.result (place c.in-Some.open.view c.in-Some.open.ask + 1) os c.following-self.ensures))

pub returns-clause-goes : goal.returns-clause-goes
returns-clause-goes g c =
    let s = c.args.self.now in
    let os = g.B.Board.asks s.board.now in
    let low : c.in-Some.open.view < 2 ^ 64 = search rules in
    let steps = ap (λ n. from_next n os) c.in_ok-view.was
    ∙ (one_from (place c.in_ok-view.view c.in_ok-view.ask) os c.in-Some.open (g.met.B.Board.rises s.board.now) (sym c.first_from.ensures ∙ c.in-Some.is) low
    ∙ ap (λ xs. c.in-Some.open ∷ xs) (after c.following-self.result (place c.in-Some.open.view c.in-Some.open.ask + 1) os c.following-self.ensures)) in
    record { on = λ _. (tt, tt, omega (arith, ap length steps)); keeps = tt; rests = λ _. tt }
