-- What stays covered.
use Rattle.std.proofs.Common.{◌≡◌, ℕ, ◌<◌, true, List}
use Rattle.cover.specs.Covers.{covered}
use Rattle.cover.proofs.Covers.{by_some_row}
use Rattle.planning.specs.Laws.{Extends}
use Rattle.table.specs.Rows.{holds}
use Rattle.terms.specs.Terms.{covering}
use Rattle.terms.proofs.Laws.{covers_on}

module _ {X : Type 0} (at : X → ℕ) (L : ℕ) where
  -- rows that keep what covers a view keep it covered
  pub stays_covered : (v : ℕ) (rs rs' : List X) → ((u : ℕ) → covering L u v ≡ true → holds at u rs ≡ true → holds at u rs' ≡ true) → covered at L v rs ≡ true → covered at L v rs' ≡ true
  stays_covered v rs rs' keeps t =
      let m = (by_some_row at L v rs).0 t in
      (by_some_row at L v rs').1 (m.0, m.1, keeps m.0 m.1 m.2)

  -- a cover goes on to the end of its term
  pub extends : 0 < L → (rs : List X) → Extends L (λ v. covered at L v rs)
  extends positive rs v w low high t =
      let m = (by_some_row at L v rs).0 t in
      (by_some_row at L w rs).1 (m.0, covers_on L positive m.0 v w low high m.1, m.2)
