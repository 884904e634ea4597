-- What a walk through the open asks has left after each.
use Rattle.std.proofs.Common.{◌≡◌, ℕ, ◌+◌, ◌*◌, ◌^◌, ◌<◌, ◌≤◌, Bool, true, List, [], ◌∷◌, Some, None, filter, Option, sym, refl, ap, ◌∙◌, subst, MatchOption, inl, inr, arith}
use Rattle.std.specs.Prelude.{nat_le, nat_lt}
use Rattle.std.specs.List.{AllByRecursion as All}
use Rattle.std.proofs.lemmas.Bool.{cases_Bool, leb-true, leb-false, lt-ltb, le-leb, lt-leb, le-ltb}
use Rattle.std.proofs.lemmas.Option.{same_Some, none-some}
use Rattle.board.specs.Asks.{rank, place, place_of}
use Rattle.board.specs.Boards.{first_of}
use Rattle.board.specs.Left.{shown_from, from_next}
use Rattle.board.specs.Sorting.{Rises}
use Rattle.board.specs.declared.ask.Ask.{Ask}
use Rattle.board.specs.declared.ask.Ask.TheVariants.{Background, Ancestry}
use Rattle.effects.specs.declared.effect.Kind.TheVariants.{Nullification, Notarization}
use Rattle.board.specs.declared.open.Open.{Open}

rank_low : (a : Ask) → rank a < 3
rank_low Background = omega arith
rank_low (Ancestry Nullification) = omega arith
rank_low (Ancestry Notarization) = omega arith

-- nothing is left past the highest view
pub past_all : (k : ℕ) (os : List Open) → 3 * 2 ^ 64 ≤ k → shown_from k os ≡ []
past_all k [] h = refl
past_all k (o ∷ os) h = elim (cases_Bool (nat_le k (place_of o))) [
  | inr f ↦ rw f (past_all k os h)
  | inl t ↦
      let high : 2 ^ 64 ≤ o.view = omega (arith, h, leb-true k (place_of o) t, rank_low o.ask) in
      rw t (rw (le-ltb o.view (2 ^ 64) high) (past_all k os h))
]

-- or where a board finds none
pub none_from : (k : ℕ) (os : List Open) → first_of (filter (λ o. nat_le k (place_of o)) os) ≡ None → shown_from k os ≡ []
none_from k [] e = refl
none_from k (o ∷ os) e = elim (cases_Bool (nat_le k (place_of o))) [
  | inr f ↦ rw f (none_from k os (rw f at e))
  | inl t ↦ let bad : Some o ≡ None = rw t at e in absurd (none-some o (sym bad))
]

-- the asks behind one are those that do not come before the next place
same_from : (j k : ℕ) (os : List Open) → All (λ o. (j ≤ place_of o) × (k ≤ place_of o)) os → shown_from j os ≡ shown_from k os
same_from j k [] a = refl
same_from j k (o ∷ os) a =
    let more = same_from j k os a.1 in
    rw (le-leb j (place_of o) a.0.0, le-leb k (place_of o) a.0.1) (elim (cases_Bool (nat_lt o.view (2 ^ 64))) [ inl t ↦ rw t (ap (λ xs. o ∷ xs) more) | inr f ↦ rw f more ])

above : (j k : ℕ) (o : Open) (os : List Open) → j ≤ place_of o → k ≤ place_of o + 1 → All (λ x. place_of o < place_of x) os → All (λ x. (j ≤ place_of x) × (k ≤ place_of x)) os
above j k o [] h l a = tt
above j k o (x ∷ os) h l a = ((omega (arith, h, a.0), omega (arith, l, a.0)), above j k o os h l a.1)

first_passes : (p : Open → Bool) (os : List Open) (o : Open) → first_of (filter p os) ≡ Some o → p o ≡ true
first_passes p [] o e = absurd (none-some o e)
first_passes p (x ∷ os) o e = elim (cases_Bool (p x)) [
  | inl t ↦ let same : x ≡ o = same_Some x o (rw t at e) in ap p (sym same) ∙ t
  | inr f ↦ first_passes p os o (rw f at e)
]

-- one before a place is none of those from there on
skipped : (k : ℕ) (x : Open) (os : List Open) → place_of x < k → shown_from k (x ∷ os) ≡ shown_from k os
skipped k x os h = rw (lt-leb k (place_of x) h) refl

kept_first : (k : ℕ) (x : Open) (os : List Open) → k ≤ place_of x → x.view < 2 ^ 64 → shown_from k (x ∷ os) ≡ x ∷ shown_from k os
kept_first k x os h l = rw (le-leb k (place_of x) h, lt-ltb x.view (2 ^ 64) l) refl

pub one_from : (k : ℕ) (os : List Open) (o : Open) → Rises os → first_of (filter (λ x. nat_le k (place_of x)) os) ≡ Some o → o.view < 2 ^ 64 → shown_from k os ≡ o ∷ shown_from (place_of o + 1) os
one_from k [] o r e h = absurd (none-some o e)
one_from k (x ∷ os) o r e h = elim (cases_Bool (nat_le k (place_of x))) [
  | inl t ↦
      let same : x ≡ o = same_Some x o (rw t at e) in
      let low : x.view < 2 ^ 64 = subst (λ y. y.view < 2 ^ 64) (sym same) h in
      let at : k ≤ place_of x = leb-true k (place_of x) t in
      let one : place_of x + 1 ≤ place_of x + 1 = omega arith in
      let rest = same_from k (place_of x + 1) os (above k (place_of x + 1) x os at one r.0) in
      let past : place_of x < place_of x + 1 = omega arith in
      kept_first k x os at low ∙ (ap (λ xs. x ∷ xs) (rest ∙ sym (skipped (place_of x + 1) x os past)) ∙ ap (λ y. y ∷ shown_from (place_of y + 1) (x ∷ os)) same)
  | inr f ↦
      let before : place_of x < k = leb-false k (place_of x) f in
      let later : first_of (filter (λ y. nat_le k (place_of y)) os) ≡ Some o = rw f at e in
      let at : k ≤ place_of o = leb-true k (place_of o) (first_passes (λ y. nat_le k (place_of y)) os o later) in
      let past : place_of x < place_of o + 1 = omega (arith, before, at) in
      skipped k x os before ∙ (one_from k os o r.1 later h ∙ ap (λ xs. o ∷ xs) (sym (skipped (place_of o + 1) x os past)))
]

-- and what is left after one, from the place that follows its own
pub after : (r : Option (ℕ × Ask)) (k : ℕ) (os : List Open) → MatchOption r (3 * 2 ^ 64 ≤ k) (λ p. place p.0 p.1 ≡ k) → shown_from k os ≡ from_next r os
after None k os h = past_all k os h
after (Some p) k os h = ap (λ n. shown_from n os) (sym h)
