-- Open asks in numbers are read back.
use Rattle.std.proofs.Common.{◌≡◌, ℕ, ◌<◌, ◌≤◌, Bool, true, not, leb, List, [], ◌∷◌, ◌++◌, map, length, Some, None, filter, Option, sym, subst, refl, ap, ◌∙◌, inl, inr, arith, append-nil, append_assoc}
use Rattle.std.proofs.lemmas.Bool.{cases_Bool, cond-true, lt-leb, lt-ltb}
use Rattle.std.specs.List.{AllByRecursion}
use Rattle.effects.specs.declared.effect.Kind.TheVariants.{Nullification, Notarization}
use Rattle.board.specs.Asks.{is_background, place_of}
use Rattle.board.specs.Boards.{opened, backgrounds, ancestries}
use Rattle.board.specs.Sorting.{Rises}
use Rattle.board.specs.declared.ask.Ask.{Ask}
use Rattle.board.specs.declared.ask.Ask.TheVariants.{Background, Ancestry}
use Rattle.board.specs.declared.open.Open.{Open}
use Rattle.asked.specs.Lists.{comes_last, if_last, appending, appended}
use Rattle.asked.specs.Rows.{untargeted, Fitting, open_of, row_of}

one_back : (v : ℕ) (a : Ask) (t : Option ℕ) → untargeted a t → open_of (row_of (opened v a t)) ≡ Some (opened v a t)
one_back v Background t e = rw e refl
one_back v (Ancestry Nullification) None e = refl
one_back v (Ancestry Nullification) (Some t) e = refl
one_back v (Ancestry Notarization) None e = refl
one_back v (Ancestry Notarization) (Some t) e = refl

pub read_back : (o : Open) → Fitting o → open_of (row_of o) ≡ Some o
read_back o fit = one_back o.view o.ask o.target fit

at_middle : (P : Open → Type 0) (xs : List Open) (o : Open) (os : List Open) → AllByRecursion P (xs ++ o ∷ os) → P o
at_middle P [] o os all = all.0
at_middle P (x ∷ xs) o os all = at_middle P xs o os all.1

-- none of those before stands at or after
none_after : (xs : List Open) (o : Open) (os : List Open) → Rises (xs ++ o ∷ os) → filter (λ x. leb (place_of o) (place_of x)) xs ≡ []
none_after [] o os rises = refl
none_after (x ∷ xs) o os rises = rw (lt-leb (place_of o) (place_of x) (at_middle (λ y. place_of x < place_of y) xs o os rises.0)) (none_after xs o os rises.1)

-- one that passes counts
one_less : (p : Open → Bool) (xs : List Open) (o : Open) (os : List Open) → p o ≡ true → length (filter p xs) < length (filter p (xs ++ o ∷ os))
one_less p [] o os e = rw e (omega arith)
one_less p (x ∷ xs) o os e = elim (cases_Bool (p x)) [
  | inl t ↦ rw t (omega (arith, one_less p xs o os e))
  | inr f ↦ rw f (one_less p xs o os e)
]

last : (xs : List Open) (o : Open) (os : List Open) → Rises (xs ++ o ∷ os) → length (backgrounds (xs ++ o ∷ os)) ≤ 256 → length (ancestries (xs ++ o ∷ os)) ≤ 64 → comes_last o xs ≡ true
last xs o os rises b a = elim (cases_Bool (is_background o.ask)) [
  | inl t ↦
      let few = lt-ltb (length (backgrounds xs)) 256 (omega (arith, one_less (λ y. is_background y.ask) xs o os t)) in
      rw (t, few, none_after xs o os rises) refl
  | inr f ↦
      let few = lt-ltb (length (ancestries xs)) 64 (omega (arith, one_less (λ y. not (is_background y.ask)) xs o os (rw f refl))) in
      rw (f, few, none_after xs o os rises) refl
]

step : (xs : List Open) (o : Open) (os : List Open) → Fitting o → comes_last o xs ≡ true → appended xs (map row_of (o ∷ os)) ≡ appended (xs ++ o ∷ []) (map row_of os)
unfolding appending
step xs o os fit e = ap (λ x. appending (if_last x xs) (map row_of os)) (read_back o fit) ∙ ap (λ x. appending x (map row_of os)) (cond-true (comes_last o xs) (Some (xs ++ o ∷ [])) None e)

none : (xs : List Open) → appended xs [] ≡ Some xs
unfolding appending
none xs = refl

all_back : (xs os : List Open) → Rises (xs ++ os) → AllByRecursion Fitting os → length (backgrounds (xs ++ os)) ≤ 256 → length (ancestries (xs ++ os)) ≤ 64 → appended xs (map row_of os) ≡ Some (xs ++ os)
all_back xs [] rises fit b a = none xs ∙ ap Some (sym (append-nil xs))
all_back xs (o ∷ os) rises fit b a =
    let same : (xs ++ o ∷ []) ++ os ≡ xs ++ o ∷ os = append_assoc xs (o ∷ []) os in
    let rest = all_back (xs ++ o ∷ []) os (subst Rises (sym same) rises) fit.1 (subst (λ l. length (backgrounds l) ≤ 256) (sym same) b) (subst (λ l. length (ancestries l) ≤ 64) (sym same) a) in
    step xs o os fit.0 (last xs o os rises b a) ∙ (rest ∙ ap Some same)

pub reads_back : (os : List Open) → Rises os → AllByRecursion Fitting os → length (backgrounds os) ≤ 256 → length (ancestries os) ≤ 64 → appended [] (map row_of os) ≡ Some os
reads_back os rises fit b a = all_back [] os rises fit b a
