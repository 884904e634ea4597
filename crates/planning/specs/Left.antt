-- The gaps that are left to go through.
use Rattle.std.specs.Prelude.{ℕ, List}
use Rattle.cover.specs.Covers.{covered}
use Rattle.table.specs.declared.lent.Table.{Table}
use Rattle.table.specs.Tables.{entries}
use Rattle.terms.specs.declared.TermLength.{TermLength}
use Rattle.terms.specs.Terms.{views}
use Rattle.views.specs.declared.Viewable as viewable
use Rattle.planning.specs.declared.walk.Gaps.{Gaps}
use Rattle.planning.specs.Gaps.{gaps}

module _ {R : Type 0} {g : viewable.Ghosts R} where
  -- the gaps of a table of nullifications
  abbrev pub gaps_in : Table R g → TermLength → ℕ → ℕ → List ℕ
  gaps_in t length low high = gaps (views length) (λ v. covered g.viewed (views length) v (entries t)) low high

  abbrev pub left : Gaps R g → List ℕ
  left s = gaps_in s.nullifications.now s.term_length s.anchor s.current
