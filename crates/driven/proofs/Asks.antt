-- The open asks of a board of rows: a background ask has no target, and there are not too many.
use Rattle.std.proofs.Common.{◌≡◌, ℕ, ◌≤◌, Bool, true, false, not, cond, ltb, eqb, List, [], ◌∷◌, ◌++◌, map, length, take, drop, Some, None, filter, Option, sym, refl, ap, ◌∙◌, inl, inr, arith}
use Rattle.std.proofs.lemmas.Bool.{cases_Bool}
use Rattle.std.proofs.lemmas.List.{length-map}
use Rattle.std.proofs.lemmas.List.Filters.{length-filter_both}
use Rattle.std.proofs.Math.Seq.{take-append_seam}
use Rattle.std.specs.List.{AllByRecursion}
use Rattle.effects.specs.declared.effect.Kind.{Kind}
use Rattle.effects.specs.declared.effect.Kind.TheVariants.{Nullification, Notarization}
use Rattle.board.specs.Asks.{is_background, place_of}
use Rattle.board.specs.Boards.{opened, backgrounds, ancestries}
use Rattle.board.specs.Sorting.{placed, Rises, sorted}
use Rattle.board.specs.declared.ask.Ask.TheVariants.{Background, Ancestry}
use Rattle.board.specs.declared.open.Open.{Open}
use Rattle.row_board.specs.Entries.{asks_of}
use Rattle.row_board.specs.Rows.{part, ancestry_of, asks_in}
use Rattle.row_board.specs.declared.row.Row.{Row}
use Rattle.asked.specs.Lists as lists
use Rattle.asked.specs.Rows.{Fitting, row_of, over}
use Rattle.asked.proofs.Back.{reads_back}
use Rattle.asked.specs.declared.row.Asked.{Asked}

fit_placed : (o : Open) (os : List Open) → Fitting o → AllByRecursion Fitting os → AllByRecursion Fitting (placed o os)
unfolding placed
fit_placed o [] f all = (f, tt)
fit_placed o (x ∷ xs) f all = elim (cases_Bool (ltb (place_of o) (place_of x))) [
  | inl t ↦ rw t (f, all)
  | inr n ↦ rw n (elim (cases_Bool (eqb (place_of o) (place_of x))) [
    | inl t ↦ rw t (f, all.1)
    | inr m ↦ rw m (all.0, fit_placed o xs f all.1)
  ])
]

fit_sorted : (os : List Open) → AllByRecursion Fitting os → AllByRecursion Fitting (sorted os)
unfolding sorted
fit_sorted [] all = tt
fit_sorted (o ∷ os) all = fit_placed o (sorted os) all.0 (fit_sorted os all.1)

fit_append : (xs ys : List Open) → AllByRecursion Fitting xs → AllByRecursion Fitting ys → AllByRecursion Fitting (xs ++ ys)
fit_append [] ys all more = more
fit_append (x ∷ xs) ys all more = (all.0, fit_append xs ys all.1 more)

fit_ancestry : (v : ℕ) (k : Kind) (t : Option (Option ℕ)) → AllByRecursion Fitting (ancestry_of v k t)
fit_ancestry v k None = tt
fit_ancestry v k (Some t) = (tt, tt)

fit_background : (v : ℕ) (b : Bool) → AllByRecursion Fitting (cond b (opened v Background None ∷ []) [])
fit_background v true = (refl, tt)
fit_background v false = tt

fit_row : (r : Row) → AllByRecursion Fitting (asks_in r)
unfolding asks_in
fit_row r = fit_append (part Background r) (part (Ancestry Nullification) r ++ part (Ancestry Notarization) r) (fit_background r.view r.background) (fit_append (part (Ancestry Nullification) r) (part (Ancestry Notarization) r) (fit_ancestry r.view Nullification r.nullification) (fit_ancestry r.view Notarization r.notarization))

fit_asks : (rs : List Row) → AllByRecursion Fitting (asks_of rs)
fit_asks [] = tt
fit_asks (r ∷ rs) = fit_append (asks_in r) (asks_of rs) (fit_row r) (fit_asks rs)

pub fit_rows : (rs : List Row) → AllByRecursion Fitting (sorted (asks_of rs))
fit_rows rs = fit_sorted (asks_of rs) (fit_asks rs)

pub fit_filter : (p : Open → Bool) (os : List Open) → AllByRecursion Fitting os → AllByRecursion Fitting (filter p os)
fit_filter p [] all = tt
fit_filter p (o ∷ os) all = elim (cases_Bool (p o)) [
  | inl t ↦ rw t (all.0, fit_filter p os all.1)
  | inr f ↦ rw f (fit_filter p os all.1)
]

pub few_filter : (q p : Open → Bool) (os : List Open) → length (filter q (filter p os)) ≤ length (filter q os)
few_filter q p [] = omega arith
few_filter q p (o ∷ os) = elim (cases_Bool (p o)) [
  | inl t ↦ rw t (elim (cases_Bool (q o)) [
    | inl u ↦ rw u (omega (arith, few_filter q p os))
    | inr n ↦ rw n (few_filter q p os)
  ])
  | inr f ↦ rw f (elim (cases_Bool (q o)) [
    | inl u ↦ rw u (omega (arith, few_filter q p os))
    | inr n ↦ rw n (few_filter q p os)
  ])
]

pub all_few : (os : List Open) → length (backgrounds os) ≤ 256 → length (ancestries os) ≤ 64 → length os ≤ 320
all_few os b a = let e = length-filter_both (λ o. is_background o.ask) (λ o. not (is_background o.ask)) (λ _. refl) os in omega arith

-- what is written is read back
pub asks_back : (os : List Open) (places : List Asked) → Rises os → AllByRecursion Fitting os → length (backgrounds os) ≤ 256 → length (ancestries os) ≤ 64 → lists.asks_in (take (length os) (over (map row_of os) places)) ≡ Some os
asks_back os places rises fit b a =
    let n : length (map row_of os) ≡ length os = length-map os row_of in
    let front : take (length os) (over (map row_of os) places) ≡ map row_of os = ap (λ k. take k (over (map row_of os) places)) (sym n) ∙ take-append_seam (map row_of os) (drop (length (map row_of os)) places) in
    ap lists.asks_in front ∙ reads_back os rises fit b a
