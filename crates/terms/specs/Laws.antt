-- What terms of L views are, without the formulas. Crates above lean on these laws.
use Rattle.std.specs.Prelude.{◌≡◌, ℕ, ◌+◌, ◌<◌, ◌≤◌, true, Decides, nat_le}
use Rattle.terms.specs.Terms.{start, end, next, is_start, same_term, covering}

-- a view lies in its own term
abbrev pub OwnTerm : ℕ → Type 0
OwnTerm L = (v : ℕ) → (start L v ≤ v) × (v ≤ end L v)

-- later views have later terms
abbrev pub Rising : ℕ → Type 0
Rising L = (u v : ℕ) → u ≤ v → (start L u ≤ start L v) × (end L u ≤ end L v)

-- a term has L views, but that of view 0
abbrev pub WholeTerm : ℕ → Type 0
WholeTerm L = (v : ℕ) → 0 < v → end L v + 1 ≡ start L v + L

-- two views lie in one term exactly if one lies between the other's start and end
abbrev pub SameStart : ℕ → Type 0
SameStart L = (u v : ℕ) → Decides (same_term L u v) ((start L u ≤ v) × (v ≤ end L u))

-- a nullification covers exactly the views from its own to the end of its term
abbrev pub ToTheEnd : ℕ → Type 0
ToTheEnd L = (u v : ℕ) → Decides (covering L u v) ((u ≤ v) × (v ≤ end L u))

-- where a nullification covers a view, so does each between the two
abbrev pub CoversBetween : ℕ → Type 0
CoversBetween L = (u w v : ℕ) → u ≤ w → w ≤ v → covering L u v ≡ true → covering L w v ≡ true

-- the next term start is one, and the least above the view
abbrev pub LeastNext : ℕ → Type 0
LeastNext L = (v : ℕ) → (is_start L (next L v) ≡ true) × (v < next L v) × ((w : ℕ) → v < w → is_start L w ≡ true → next L v ≤ w)

-- a term start is covered from itself alone
abbrev pub StartCovered : ℕ → Type 0
StartCovered L = (u v : ℕ) → is_start L v ≡ true → covering L u v ≡ true → u ≡ v

-- a term start is where its own term starts
abbrev pub StartsItself : ℕ → Type 0
StartsItself L = (v : ℕ) → is_start L (start L v) ≡ true

-- a view's term ends at or past another view exactly if it is not below the start of the other's term
abbrev pub EndsPast : ℕ → Type 0
EndsPast L = (u v : ℕ) → Decides (nat_le (start L v) u) (v ≤ end L u)

-- what covers a view covers each later one whose term had started by then
abbrev pub CoversOn : ℕ → Type 0
CoversOn L = (u v w : ℕ) → start L w ≤ v → v ≤ w → covering L u v ≡ true → covering L u w ≡ true
