-- A board with no ask of either sort has none.
use Rattle.std.proofs.Common.{◌≡◌, not, List, [], ◌∷◌, length, refl, ap, arith}
use Rattle.std.proofs.lemmas.List.Filters.{length-filter_both}
use Rattle.board.specs.Asks.{is_background}
use Rattle.board.specs.Boards.{counted}
use Rattle.board.specs.declared.board.Counts.{Counts}
use Rattle.board.specs.declared.open.Open.{Open}

none_left : (os : List Open) → length os ≡ 0 → os ≡ []
none_left [] e = refl
none_left (o ∷ os) e = absurd (omega (arith, e))

pub none_open : (os : List Open) (n : Counts) → n ≡ counted os → n.background ≡ 0 → n.ancestry ≡ 0 → os ≡ []
none_open os n e b a = none_left os (omega (arith, length-filter_both (λ o. is_background o.ask) (λ o. not (is_background o.ask)) (λ _. refl) os, ap (λ c. c.background) e, ap (λ c. c.ancestry) e, b, a))
