-- The next view with an open ask is not below where it is looked for, and a round goes up.
use Rattle.std.proofs.Common.{◌≡◌, ℕ, ◌-◌, ◌^◌, ◌<◌, ◌≤◌, Bool, true, List, [], ◌∷◌, filter, None, Some, Option, refl, inl, inr, arith}
use Rattle.std.proofs.lemmas.Bool.{cases_Bool}
use Rattle.std.proofs.lemmas.Grind.{common_steps}
use Rattle.board.specs.Asks.{place, place_of, rank}
use Rattle.board.specs.Boards.{first_of, first_from}
use Rattle.board.specs.declared.ask.Ask.{Ask}
use Rattle.board.specs.declared.ask.Ask.TheVariants.{Background, Ancestry}
use Rattle.board.specs.declared.open.Open.{Open}
use Rattle.peer_rounds.specs.Rounds.{view_of, open_from, following}
use Rattle.effects.specs.declared.effect.Kind.TheVariants.{Nullification, Notarization}
use Rattle.std.specs.Prelude.{nat_le}

-- how many views are left
abbrev pub left : Option ℕ → ℕ
left None = 0
left (Some v) = 2 ^ 64 - v

first_passes : (p : Open → Bool) (os : List Open) (o : Open) → first_of (filter p os) ≡ Some o → p o ≡ true
first_passes p [] o e = absurd (grind (arith, common_steps))
first_passes p (x ∷ xs) o e = elim (cases_Bool (p x)) [
  | inl t ↦ grind (arith, common_steps)
  | inr f ↦ first_passes p xs o (grind (arith, common_steps))
]

rank_low : (a : Ask) → rank a ≤ 2
rank_low Background = omega arith
rank_low (Ancestry Nullification) = omega arith
rank_low (Ancestry Notarization) = omega arith

viewed : (x : Option Open) (v : ℕ) → view_of x ≡ Some v → (o : Open) × (x ≡ Some o) × (o.view ≡ v)
viewed None v e = absurd (grind (arith, common_steps))
viewed (Some o) v e = (o, refl, grind (arith, common_steps))

pub ahead : (from : Option ℕ) (os : List Open) (v : ℕ) → open_from from os ≡ Some v → v < 2 ^ 64 → left (following v) < left from
ahead None os v e h = absurd (grind (arith, common_steps))
ahead (Some f) os v e h =
    let found = viewed (first_from f Background os) v e in
    let passes : nat_le (place f Background) (place_of found.0) ≡ true = first_passes (λ o. nat_le (place f Background) (place_of o)) os found.0 found.1 in
    let low = rank_low found.0.ask in
    let same = found.2 in
    let up : f ≤ v = grind (arith, common_steps) in
    grind (arith, common_steps)
