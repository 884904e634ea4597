-- How many rows a table has and how many asks are open, by the accepted calls.
use Rattle.std.proofs.Common.{◌≡◌, ℕ, ◌+◌, ◌*◌, ◌<◌, ◌≤◌, Bool, true, false, ◌&&◌, eqb, List, [], ◌∷◌, map, length, is_some, filter, sym, refl, ap, ◌∙◌, inl, inr, arith}
use Rattle.std.specs.List.{AllByRecursion as All, IsDistinct}
use Rattle.std.specs.Set.{is_member}
use Rattle.std.proofs.ByRecursion.{All-weaker, All-map, kept_by_passes}
use Rattle.std.proofs.lemmas.Bool.{cases_eq, eq-eqb, ne_eqb, eqb-true}
use Rattle.std.proofs.lemmas.Cmp.{nat_eq_equiv}
use Rattle.std.proofs.lemmas.Grind.{common_steps}
use Rattle.std.proofs.lemmas.List.{length-map}
use Rattle.std.proofs.lemmas.Map.Made.{is_member-filter, length-from_keys}
use Rattle.board.proofs.Sorting.{rises_filter}
use Rattle.board.specs.Asks.{rank, place_of}
use Rattle.board.specs.Sorting.{lookup as found, Rises}
use Rattle.board.specs.declared.ask.Ask.{Ask}
use Rattle.board.specs.declared.open.Open.{Open}
use Rattle.table.proofs.Rising.{Up, up_from}
use Rattle.table.specs.Rows.{views, Ascending, lookup, holds}
use Rattle.history.specs.Rules.{how_many}

-- views without repetition that are those among others that pass a test
counted_alike : (ns vs : List ℕ) (p : ℕ → Bool) → IsDistinct eqb ns → ((q : ℕ) → is_member eqb ns q ≡ (is_member eqb vs q && p q)) → length ns ≡ how_many p vs
counted_alike ns vs p once these = length-from_keys nat_eq_equiv ns (filter p vs) once (λ q. these q ∙ sym (is_member-filter nat_eq_equiv p q (λ x e. ap p (eqb-true q x e)) vs))

module _ {X : Type 0} (at : X → ℕ) where
  row_views_once : (rs : List X) → Up at rs → IsDistinct eqb (views at rs)
  unfolding IsDistinct
  row_views_once [] up = tt
  row_views_once (r ∷ rs) up = (All-map (λ n. eqb (at r) n ≡ false) at rs (All-weaker (λ x. at r < at x) (λ x. eqb (at r) (at x) ≡ false) (λ x l. ne_eqb (at r) (at x) (λ e. omega (arith, l, e))) rs up.0), row_views_once rs up.1)

  row_is_member : (rs : List X) (q : ℕ) → is_member eqb (views at rs) q ≡ holds at q rs
  unfolding lookup
  row_is_member [] q = refl
  row_is_member (r ∷ rs) q = let i = row_is_member rs q in grind (arith, common_steps)

  -- the rows of a table
  pub rows_counted : (rs : List X) → Ascending at rs → (vs : List ℕ) (p : ℕ → Bool) → ((q : ℕ) → holds at q rs ≡ p q) → ((q : ℕ) → p q ≡ true → is_member eqb vs q ≡ true) → length rs ≡ how_many p vs
  rows_counted rs up vs p these named = sym (length-map rs at) ∙ counted_alike (views at rs) vs p (row_views_once rs (up_from at rs up)) (λ q. row_is_member rs q ∙ these q ∙ (let n = named q in grind (arith, common_steps)))

-- the open asks of a rank
abbrev pub of_rank : ℕ → List Open → List Open
of_rank r os = filter (λ o. eqb (rank o.ask) r) os

abbrev pub ask_views : ℕ → List Open → List ℕ
ask_views r os = map (λ o. o.view) (of_rank r os)

pub rank_low : (a : Ask) → rank a ≤ 2
rank_low a = grind (arith, common_steps)

ranks_only : (r : ℕ) (os : List Open) → All (λ o. rank o.ask ≡ r) (of_rank r os)
ranks_only r os = All-weaker (λ o. eqb (rank o.ask) r ≡ true) (λ o. rank o.ask ≡ r) (λ o t. eqb-true (rank o.ask) r t) (of_rank r os) (kept_by_passes (λ o. eqb (rank o.ask) r) os)

both_hold : {X : Type 0} (P Q : X → Type 0) (xs : List X) → All P xs → All Q xs → All (λ x. P x × Q x) xs
both_hold P Q [] p q = tt
both_hold P Q (x ∷ xs) p q = ((p.0, q.0), both_hold P Q xs p.1 q.1)

views_once : (r : ℕ) (os : List Open) → Rises os → All (λ o. rank o.ask ≡ r) os → IsDistinct eqb (map (λ o. o.view) os)
unfolding IsDistinct
views_once r [] up same = tt
views_once r (o ∷ os) up same = (
  All-map (λ n. eqb o.view n ≡ false) (λ x. x.view) os (All-weaker (λ x. (place_of o < place_of x) × (rank x.ask ≡ r)) (λ x. eqb o.view x.view ≡ false) (λ x m. ne_eqb o.view x.view (λ e. omega (arith, m.0, m.1, e, same.0))) os (both_hold (λ x. place_of o < place_of x) (λ x. rank x.ask ≡ r) os up.0 same.1)),
  views_once r os up.1 same.1,
)

pub asks_once : (r : ℕ) (os : List Open) → Rises os → IsDistinct eqb (ask_views r os)
asks_once r os up = views_once r (of_rank r os) (rises_filter (λ o. eqb (rank o.ask) r) os up) (ranks_only r os)

-- an ask of a rank is among them exactly if it is found
pub ask_is_member : (r : ℕ) → r ≤ 2 → (os : List Open) (q : ℕ) → is_member eqb (ask_views r os) q ≡ is_some (found (3 * q + r) os)
unfolding found
ask_is_member r low [] q = refl
ask_is_member r low (o ∷ os) q =
    let i = ask_is_member r low os q in
    let k = rank_low o.ask in
    elim (cases_eq (rank o.ask) r) [
      | inl e ↦ rw (eq-eqb (rank o.ask) r e) (elim (cases_eq q o.view) [
        | inl v ↦ rw (eq-eqb q o.view v, eq-eqb (place_of o) (3 * q + r) (omega (arith, e, v))) refl
        | inr n ↦ rw (ne_eqb q o.view n, ne_eqb (place_of o) (3 * q + r) (λ w. n (omega (arith, e, w)))) i
      ])
      | inr n ↦ rw (ne_eqb (rank o.ask) r n, ne_eqb (place_of o) (3 * q + r) (λ w. n (omega (arith, w, k, low)))) i
    ]

pub asks_counted : (r : ℕ) → r ≤ 2 → (os : List Open) → Rises os → (vs : List ℕ) (p : ℕ → Bool) → ((q : ℕ) → is_some (found (3 * q + r) os) ≡ (is_member eqb vs q && p q)) → length (of_rank r os) ≡ how_many p vs
asks_counted r low os up vs p these = sym (length-map (of_rank r os) (λ o. o.view)) ∙ counted_alike (ask_views r os) vs p (asks_once r os up) (λ q. ask_is_member r low os q ∙ these q)
