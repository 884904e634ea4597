-- How lists are shown.
use Rattle.std.specs.Prelude.{ℕ, ◌+◌, ◌/◌, ◌%◌, cond, List, [], ◌∷◌, ◌++◌, flat_map, codes, decimal, nat_lt}
use Rattle.effects.specs.declared.effect.Effect.{Effect}
use Rattle.effects.specs.Shown.{effect_text}

-- a hex digit, in lower case
abbrev pub digit : ℕ → ℕ
digit n = cond (nat_lt n 10) (48 + n) (87 + n)

abbrev pub byte_text : ℕ → List ℕ
byte_text b = digit (b / 16) ∷ digit (b % 16) ∷ []

abbrev pub hex_text : List ℕ → List ℕ
hex_text bs = flat_map byte_text bs

abbrev pub one_more : Effect → List ℕ
one_more e = codes ", " ++ effect_text e

-- each behind a comma and a space, the first behind a space alone
abbrev pub effects_text : List Effect → List ℕ
effects_text [] = []
effects_text (e ∷ es) = codes " " ++ (effect_text e ++ flat_map one_more es)

module _ {X : Type 0} (at : X → ℕ) where
  abbrev pub one_view : X → List ℕ
  one_view x = codes "," ++ decimal (at x)

  -- the views of rows, a comma between each two
  abbrev pub views_text : List X → List ℕ
  views_text [] = codes "-"
  views_text (x ∷ xs) = decimal (at x) ++ flat_map one_view xs
