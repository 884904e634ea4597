-- A term ends above a view exactly if it is not below the term of the view after that.
use Rattle.std.proofs.Common.{◌≡◌, ℕ, ◌+◌, ◌-◌, ◌<◌, ◌≤◌, arith}
use Rattle.std.proofs.lemmas.Bool.{le-leb, leb-true}
use Rattle.terms.specs.Laws.{EndsPast}
use Rattle.terms.specs.Terms.{start, end}

pub start_above : (L v : ℕ) → 1 ≤ start L (v + 1)
unfolding start
start_above L v = grind arith

module _ (L f first : ℕ) (ends : EndsPast L) (is : first ≡ start L (f + 1)) where
  above_one : 1 ≤ first
  above_one = rw is (start_above L f)

  pub opens : (u : ℕ) → first - 1 < u → f < end L u
  opens u h = let e = (ends u (f + 1)).0 (le-leb (start L (f + 1)) u (omega (arith, above_one))) in omega arith

  pub reaches : (u : ℕ) → f < end L u → first - 1 < u
  reaches u h = let e = leb-true (start L (f + 1)) u ((ends u (f + 1)).1 (omega arith)) in omega (arith, above_one)
