-- Effects that are done one after the other, and one more.
use Rattle.std.proofs.Common.{◌≡◌, ℕ, ◌+◌, ◌<◌, List, [], ◌∷◌, ◌++◌, length, take, get_or, refl, ap, ◌∙◌}
use Rattle.std.proofs.lemmas.List.{take_more}
use Rattle.board.specs.declared.open.Open.{Open}
use Rattle.effects.specs.declared.effect.Effect.{Effect}
use Rattle.resolver.specs.Applied.{in_turn}

one_more : (f : Effect → List Open → List Open) (es : List Effect) (e : Effect) (os : List Open) → in_turn f (es ++ e ∷ []) os ≡ f e (in_turn f es os)
unfolding in_turn
one_more f [] e os = refl
one_more f (x ∷ es) e os = one_more f es e (f x os)

pub none_yet : (f : Effect → List Open → List Open) (os : List Open) → in_turn f [] os ≡ os
unfolding in_turn
none_yet f os = refl

pub next_done : (f : Effect → List Open → List Open) (es : List Effect) (i : ℕ) (d : Effect) (os : List Open) → i < length es → in_turn f (take (i + 1) es) os ≡ f (get_or es i d) (in_turn f (take i es) os)
next_done f es i d os h = ap (λ xs. in_turn f xs os) (take_more es i d h) ∙ one_more f (take i es) (get_or es i d) os
