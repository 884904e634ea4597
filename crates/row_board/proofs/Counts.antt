-- How many asks rows have.
use Rattle.std.proofs.Common.{◌≡◌, ◌+◌, ◌≤◌, true, not, List, [], ◌∷◌, length, refl, inl, inr, arith}
use Rattle.std.proofs.lemmas.Bool.{cases_Bool}
use Rattle.board.specs.Asks.{is_background}
use Rattle.board.specs.Boards.{backgrounds, ancestries}
use Rattle.board.specs.Sorting.{sorted}
use Rattle.board.specs.declared.open.Open.{Open}
use Rattle.board.proofs.Sorting.{length_sorted}
use Rattle.row_board.specs.Entries.{views_apart, asks_of}
use Rattle.row_board.specs.declared.row.Row.{Row}
use Rattle.row_board.proofs.Entries.{distinct_rows}

both_sorts : (os : List Open) → length (backgrounds os) + length (ancestries os) ≡ length os
both_sorts [] = refl
both_sorts (o ∷ os) = elim (cases_Bool (is_background o.ask)) [
  | inl t ↦ rw t (omega (arith, both_sorts os))
  | inr f ↦ rw f (omega (arith, both_sorts os))
]

-- they are as many in order, and no more than may be
pub all_counted : (rs : List Row) → views_apart rs ≡ true → length (backgrounds (asks_of rs)) ≤ 256 → length (ancestries (asks_of rs)) ≤ 64 → (length (backgrounds (sorted (asks_of rs))) + length (ancestries (sorted (asks_of rs))) ≡ length (sorted (asks_of rs))) × (length (sorted (asks_of rs)) ≤ 320)
all_counted rs apart b a =
    let d = distinct_rows rs apart in
    let few = length_sorted (λ o. is_background o.ask) (asks_of rs) d in
    let rest = length_sorted (λ o. not (is_background o.ask)) (asks_of rs) d in
    let all = both_sorts (sorted (asks_of rs)) in
    (all, omega arith)
