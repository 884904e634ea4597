-- What gaps are and how they change, without the lists: crates above build on these laws.
use Rattle.std.specs.Prelude.{◌≡◌, ℕ, ◌+◌, ◌<◌, ◌≤◌, Bool, true, false, ◌⊎◌, length, Decides}
use Rattle.terms.specs.Terms.{start, is_start}
use Rattle.planning.specs.Gaps.{among, plan_start, gaps, landing, pulled}

module _ (L : ℕ) where
  -- a view that planning looks at, from `low` on and below `high`
  pub record Anchor (low high v : ℕ) : Type 0 where
    pub above : low ≤ v
    pub below : v < high
    pub first : (v ≡ low) ⊎ (is_start L v ≡ true)

  -- the gaps are exactly the anchors that nothing covers
  abbrev pub GapsExactly : Type 0
  GapsExactly = (cov : ℕ → Bool) (low high v : ℕ) → Decides (among v (gaps L cov low high)) (Anchor low high v × (cov v ≡ false))

  -- what covers a view covers the rest of its term
  abbrev pub Extends : (ℕ → Bool) → Type 0
  Extends cov = (v w : ℕ) → start L w ≤ v → v ≤ w → cov v ≡ true → cov w ≡ true

  -- where planning begins higher and no view from there on loses its cover, there are no more gaps than before
  abbrev pub NoGrowth : Type 0
  NoGrowth = (cov after : ℕ → Bool) (low low' high : ℕ) → Extends cov → low ≤ low' → ((v : ℕ) → low' ≤ v → v < high → cov v ≡ true → after v ≡ true) → length (gaps L after low' high) ≤ length (gaps L cov low high)

  -- views that are covered alike have the same gaps
  abbrev pub SameGaps : Type 0
  SameGaps = (cov after : ℕ → Bool) (low high : ℕ) → ((v : ℕ) → low ≤ v → v < high → after v ≡ cov v) → gaps L after low high ≡ gaps L cov low high

  -- there are none where the floor is not below
  abbrev pub NoGaps : Type 0
  NoGaps = (cov : ℕ → Bool) (low high : ℕ) → high ≤ low → length (gaps L cov low high) ≡ 0

  -- how floor, highest view and cursor may move between two plans: the floor stays, or it rises and pulls the cursor
  pub record Moved (floor current cursor floor' current' cursor' : ℕ) : Type 0 where
    pub grown : current ≤ current'
    pub raised : ((floor' ≡ floor) × (cursor' ≡ cursor)) ⊎ ((floor < floor') × (cursor' ≡ pulled L cursor floor'))

  module _ (floor current cursor floor' current' cursor' : ℕ) where
    -- then the cursor lands where it would from the floor
    abbrev pub CursorLands : Type 0
    CursorLands = cursor ≡ landing L (floor + 1) current → Moved floor current cursor floor' current' cursor' → landing L (plan_start cursor' floor') current' ≡ landing L (floor' + 1) current'

    -- each anchor above the floor is one that planning looks at now, or was one before
    abbrev pub NoAnchorSkipped : Type 0
    NoAnchorSkipped = cursor ≡ landing L (floor + 1) current → Moved floor current cursor floor' current' cursor' → (v : ℕ) → Anchor (floor' + 1) current' v → Anchor (plan_start cursor' floor') current' v ⊎ Anchor (floor + 1) current v

    -- and planning looks at no others
    abbrev pub OnlyAnchors : Type 0
    OnlyAnchors = cursor ≡ landing L (floor + 1) current → Moved floor current cursor floor' current' cursor' → (v : ℕ) → Anchor (plan_start cursor' floor') current' v → Anchor (floor' + 1) current' v
