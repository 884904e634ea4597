-- Which views planning asks for. Terms have L views, and `cov` tells whether a view is covered.
use Rattle.std.specs.Prelude.{ℕ, zero, suc, ◌+◌, ◌-◌, min, max, Bool, false, cond, not, ◌&&◌, ◌||◌, List, [], ◌∷◌, filter, ◌==◌, nat_lt}
use Rattle.effects.specs.declared.effect.Effect.{Effect}
use Rattle.effects.specs.declared.effect.Effect.TheVariants.{Fetch}
use Rattle.effects.specs.declared.effect.FetchReason.TheVariants.{MissingNullification}
use Rattle.terms.specs.Terms.{next, is_start}

-- n numbers from `low` on
abbrev pub counted : ℕ → ℕ → List ℕ
counted low zero = []
counted low (suc n) = low ∷ counted (low + 1) n

-- the numbers from `low` up to `high`, which is not one of them
abbrev pub span : ℕ → ℕ → List ℕ
span low high = counted low (high - low)

-- whether a number is one of some
abbrev pub among : ℕ → List ℕ → Bool
among v [] = false
among v (x ∷ xs) = x == v || among v xs

-- the fetch of a gap
abbrev pub missing : ℕ → ℕ → Effect
missing cause v = Fetch v cause MissingNullification

-- where planning begins
abbrev pub plan_start : ℕ → ℕ → ℕ
plan_start cursor floor = max cursor (floor + 1)

module _ (L : ℕ) where
  -- the views that planning looks at from `low` on: that one, and each later term start
  abbrev pub anchor : ℕ → ℕ → Bool
  anchor low v = v == low || is_start L v

  -- the anchors from `low` up to `high` that nothing covers
  unfoldable pub gaps : (ℕ → Bool) → ℕ → ℕ → List ℕ
  gaps cov low high = filter (λ v. anchor low v && not (cov v)) (span low high)

  -- the first term start at or past a view
  unfoldable pub first_start : ℕ → ℕ
  first_start v = cond (is_start L v) v (next L v)

  -- the first anchor from `low` on that is not below `high`
  unfoldable pub landing : ℕ → ℕ → ℕ
  landing low high = cond (nat_lt low high) (first_start high) low

  -- a floor that rises into the middle of a term pulls the cursor back to the view after it
  unfoldable pub pulled : ℕ → ℕ → ℕ
  pulled cursor floor = cond (is_start L (floor + 1)) cursor (min cursor (floor + 1))
