-- What a walk through the gaps has left after each anchor.
use Rattle.std.proofs.Common.{◌≡◌, ℕ, ◌<◌, ◌≤◌, true, false, [], ◌∷◌, Bool, sym, ap, ◌∙◌}
use Rattle.cover.specs.Covers.{covered}
use Rattle.table.specs.declared.lent.Table.{Table}
use Rattle.table.specs.Tables.{entries}
use Rattle.terms.specs.declared.TermLength.{TermLength}
use Rattle.terms.specs.Terms.{views, next}
use Rattle.views.specs.declared.Viewable as viewable
use Rattle.planning.specs.Left.{gaps_in}
use Rattle.planning.proofs.Gaps.{gaps_none, gaps_covered, gaps_open}

module _ {R : Type 0} {g : viewable.Ghosts R} (t : Table R g) (l : TermLength) (low high : ℕ) where
  abbrev pub cov : ℕ → Bool
  cov v = covered g.viewed (views l) v (entries t)

  pub none_left : high ≤ low → gaps_in t l low high ≡ []
  none_left h = gaps_none (views l) l.positive cov low high h

  module _ (after : ℕ) (on : after ≡ next (views l) low) (h : low < high) where
    pub open_left : cov low ≡ false → gaps_in t l low high ≡ low ∷ gaps_in t l after high
    open_left f = gaps_open (views l) l.positive cov low high h f ∙ ap (λ v. low ∷ gaps_in t l v high) (sym on)

    pub covered_left : cov low ≡ true → gaps_in t l low high ≡ gaps_in t l after high
    covered_left f = gaps_covered (views l) l.positive cov low high h f ∙ ap (λ v. gaps_in t l v high) (sym on)
