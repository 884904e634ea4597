-- Effects that come one after the other.
use Rattle.std.proofs.Common.{◌≡◌, ℕ, ◌+◌, ◌-◌, ◌≤◌, List, ◌++◌, length, take, drop, sym, ap, ◌∙◌, inl, inr, arith, rules}
use Rattle.std.proofs.lemmas.List.{append_assoc, length-append, length-take, take_all, take-take, take-append-le, drop-drop}
use Rattle.std.proofs.lemmas.Grind.{common_steps}
use Rattle.std.proofs.lemmas.Bool.{cases_lt}
use Rattle.effects.specs.declared.listed.Effects.{Effects}
use Rattle.effects.specs.Lists.{entries, places, NothingAdded, AddedBoth, FilledBoth, AllFilled}

pub nothing_added : NothingAdded
nothing_added e = search rules

-- lists that agree from a place on agree further on
further : {X : Type 0} (m n : ℕ) (xs ys : List X) → m ≤ n → drop m xs ≡ drop m ys → drop n xs ≡ drop n ys
further m n xs ys h e =
    let k : n ≡ m + (n - m) = omega arith in
    rw k (sym (drop-drop (n - m) m xs) ∙ ap (drop (n - m)) e ∙ drop-drop (n - m) m ys)

pub added_both : AddedBoth
added_both xs ys a b c p q =
    let e : entries c ≡ entries a ++ (xs ++ ys) = q.stand ∙ ap (λ l. l ++ ys) p.stand ∙ append_assoc (entries a) xs ys in
    let more : length (entries b) ≤ length (entries c) = omega (arith, ap length q.stand, length-append (entries b) ys) in
    record {
      stand = e;
      rest = q.rest ∙ further (length (entries b)) (length (entries c)) b.list.now a.list.now more p.rest;
      room = q.room ∙ p.room;
    }

-- no more stand in a list than it has places
within : (e : Effects) → length (entries e) ≤ places e
within e = omega (arith, length-take e.len e.list.now)

pub all_filled : AllFilled
all_filled es before after h p = grind (arith, common_steps)

-- what was cut off once is cut off where more comes
cut_twice : {X : Type 0} (n : ℕ) (xs ys : List X) → take n (take n xs ++ ys) ≡ take n (xs ++ ys)
cut_twice n xs ys = elim (cases_lt n (length xs)) [
  | inl h ↦ take-append-le n (take n xs) ys (omega (arith, length-take n xs)) ∙ take-take n n xs (omega arith) ∙ sym (take-append-le n xs ys (omega arith))
  | inr h ↦ ap (λ l. take n (l ++ ys)) (take_all n xs h)
]

pub filled_both : FilledBoth
filled_both xs ys a b c p q =
    let n = places a in
    let e : entries c ≡ take n (entries a ++ (xs ++ ys)) = q.stand ∙ ap (λ m. take m (entries b ++ ys)) p.room ∙ ap (λ l. take n (l ++ ys)) p.stand ∙ cut_twice n (entries a ++ xs) ys ∙ ap (take n) (append_assoc (entries a) xs ys) in
    let more : length (entries b) ≤ length (entries c) = omega (arith, within b, ap length q.stand, length-take (places b) (entries b ++ ys), length-append (entries b) ys) in
    record {
      stand = e;
      rest = q.rest ∙ further (length (entries b)) (length (entries c)) b.list.now a.list.now more p.rest;
      room = q.room ∙ p.room;
    }
