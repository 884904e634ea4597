-- What covers a view: of the accepted nullifications, and of the rows.
use Rattle.std.proofs.Common.{◌≡◌, ℕ, ◌<◌, Bool, true, false, cond, ◌&&◌, ◌⊎◌, eqb, List, [], ◌∷◌, is_some, Some, None, Option, Decides, sym, refl, ap, ◌∙◌, inl, inr, arith, MatchOption}
use Rattle.std.proofs.lemmas.Bool.{true≢false, cases_Bool, cases_lt, or_cases, and_parts, lt-ltb, le-ltb, eqb-true}
use Rattle.std.proofs.lemmas.Grind.{common_steps}
use Rattle.cover.specs.Covers.{HighestCover}
use Rattle.record.specs.declared.kind.Kind.{Kind}
use Rattle.state.specs.Serving.{or_else}
use Rattle.table.specs.Rows.{lookup}
use Rattle.terms.proofs.Laws.{own_end, to_the_end, end_rises, ends_past, covers_on}
use Rattle.terms.specs.Terms.{end, covering}
use Rattle.history.specs.Calls.{Call, evidence, verdict, marker, request, is_nullification, some, covered, first_nullification, higher, highest_cover}

-- what covers a view has its term
pub same_end : (L : ℕ) → 0 < L → (u v : ℕ) → covering L u v ≡ true → end L u ≡ end L v
same_end L positive u v c =
    let m = (to_the_end L positive u v).0 c in
    let far = covers_on L positive u v (end L v) (grind (arith, ends_past L positive v (end L v))) (own_end L positive v) c in
    omega (arith, end_rises L positive u v m.0, ((to_the_end L positive u (end L v)).0 far).1)

module _ {R : Type 0} (viewed : R → ℕ) (sort : R → Kind) (L v : ℕ) where
  -- a view is covered exactly if a nullification at some view covers it
  some_cover : (h : List (Call R)) → covered viewed sort L v h ≡ true → (u : ℕ) × (covering L u v ≡ true) × (is_some (first_nullification viewed sort u h) ≡ true)
  unfolding some first_nullification
  some_cover [] t = absurd (true≢false (sym t))
  some_cover (evidence x ∷ h) t = elim (or_cases (is_nullification (sort x) && covering L (viewed x) v) (covered viewed sort L v h) t) [
    | inl here ↦ let p = and_parts (is_nullification (sort x)) (covering L (viewed x) v) here in (viewed x, p.1, grind (arith, common_steps))
    | inr later ↦ let m = some_cover h later in (m.0, m.1, (let e = m.2 in grind (arith, common_steps)))
  ]
  some_cover (verdict b x ∷ h) t = let m = some_cover h t in (m.0, m.1, (let e = m.2 in grind (arith, common_steps)))
  some_cover (marker ∷ h) t = let m = some_cover h t in (m.0, m.1, (let e = m.2 in grind (arith, common_steps)))
  some_cover (request w k a ∷ h) t = let m = some_cover h t in (m.0, m.1, (let e = m.2 in grind (arith, common_steps)))

  that_cover : (h : List (Call R)) (u : ℕ) → covering L u v ≡ true → is_some (first_nullification viewed sort u h) ≡ true → covered viewed sort L v h ≡ true
  unfolding some first_nullification
  that_cover [] u c f = absurd (true≢false (sym f))
  that_cover (evidence x ∷ h) u c f = elim (cases_Bool (is_nullification (sort x) && eqb (viewed x) u)) [
    | inl here ↦ let p = and_parts (is_nullification (sort x)) (eqb (viewed x) u) here in let e : covering L (viewed x) v ≡ true = ap (λ n. covering L n v) (omega (arith, eqb-true (viewed x) u p.1)) ∙ c in grind (arith, common_steps)
    | inr other ↦ let e : is_some (first_nullification viewed sort u h) ≡ true = grind (arith, common_steps) in let i = that_cover h u c e in grind (arith, common_steps)
  ]
  that_cover (verdict b x ∷ h) u c f = that_cover h u c (let e = f in grind (arith, common_steps))
  that_cover (marker ∷ h) u c f = that_cover h u c (let e = f in grind (arith, common_steps))
  that_cover (request w k a ∷ h) u c f = that_cover h u c (let e = f in grind (arith, common_steps))

  pub by_some_call : (h : List (Call R)) → Decides (covered viewed sort L v h) ((u : ℕ) × (covering L u v ≡ true) × (is_some (first_nullification viewed sort u h) ≡ true))
  by_some_call h = (some_cover h, λ m. that_cover h m.0 m.1 m.2)

  -- the highest of the nullifications that cover the view
  abbrev HighestOf : List (Call R) → Option R → Type 0
  HighestOf h found = MatchOption found ((u : ℕ) → covering L u v ≡ true → first_nullification viewed sort u h ≡ None) (λ x. (covering L (viewed x) v ≡ true) × (first_nullification viewed sort (viewed x) h ≡ Some x) × ((u : ℕ) → viewed x < u → covering L u v ≡ true → first_nullification viewed sort u h ≡ None))

  abbrev new : R → Bool
  new x = is_nullification (sort x) && covering L (viewed x) v

  -- a call that brings no nullification leaves it
  as_before : (c : Call R) (h : List (Call R)) → ((u : ℕ) → first_nullification viewed sort u (c ∷ h) ≡ or_else (first_nullification viewed sort u h) None) → (found : Option R) → HighestOf h found → HighestOf (c ∷ h) found
  as_before c h same None old = λ u q. let e = same u in let o = old u q in grind (arith, common_steps)
  as_before c h same (Some y) old = (old.0, (let e = same (viewed y) in let o = old.1 in grind (arith, common_steps)), λ u past q. let e = same u in let o = old.2 u past q in grind (arith, common_steps))

  highest_of : (h : List (Call R)) → HighestOf h (highest_cover viewed sort L v h)
  unfolding first_nullification highest_cover
  highest_of [] = λ u c. refl
  highest_of (evidence x ∷ h) = next (highest_cover viewed sort L v h) (highest_of h) (cases_Bool (new x))
    where
      next : (found : Option R) → HighestOf h found → (new x ≡ true) ⊎ (new x ≡ false) → HighestOf (evidence x ∷ h) (higher viewed sort L (cond (new x) (Some x) None) found)
      next None old (inl t) = rw t (
        (and_parts (is_nullification (sort x)) (covering L (viewed x) v) t).1,
        (let p = and_parts (is_nullification (sort x)) (covering L (viewed x) v) t in let o = old (viewed x) p.1 in grind (arith, common_steps)),
        λ u past c. let o = old u c in grind (arith, common_steps),
      )
      next None old (inr f) = rw f (λ u c. let o = old u c in let e : eqb (viewed x) u ≡ true → covering L (viewed x) v ≡ true = λ q. ap (λ n. covering L n v) (eqb-true (viewed x) u q) ∙ c in grind (arith, common_steps))
      next (Some y) old (inr f) = rw f (old.0, (let o = old.1 in grind (arith, common_steps)), λ u past c. let o = old.2 u past c in let e : eqb (viewed x) u ≡ true → covering L (viewed x) v ≡ true = λ q. ap (λ n. covering L n v) (eqb-true (viewed x) u q) ∙ c in grind (arith, common_steps))
      next (Some y) old (inl t) = elim (cases_lt (viewed y) (viewed x)) [
        | inl up ↦ rw t (rw (lt-ltb (viewed y) (viewed x) up) (
          (and_parts (is_nullification (sort x)) (covering L (viewed x) v) t).1,
          (let p = and_parts (is_nullification (sort x)) (covering L (viewed x) v) t in let o = old.2 (viewed x) up p.1 in grind (arith, common_steps)),
          λ u past c. let o = old.2 u (omega arith) c in grind (arith, common_steps),
        ))
        | inr low ↦ rw t (rw (le-ltb (viewed y) (viewed x) low) (
          old.0,
          (let o = old.1 in grind (arith, common_steps)),
          λ u past c. let o = old.2 u past c in grind (arith, common_steps),
        ))
      ]
  highest_of (verdict b x ∷ h) = as_before (verdict b x) h (λ u. refl) (highest_cover viewed sort L v h) (highest_of h)
  highest_of (marker ∷ h) = as_before marker h (λ u. refl) (highest_cover viewed sort L v h) (highest_of h)
  highest_of (request w k a ∷ h) = as_before (request w k a) h (λ u. refl) (highest_cover viewed sort L v h) (highest_of h)

  -- rows that hold the first nullifications have the same one
  pub same_cover : (h : List (Call R)) (rs : List R) → ((u : ℕ) → covering L u v ≡ true → lookup viewed u rs ≡ first_nullification viewed sort u h) → (found : Option R) → HighestCover viewed L v rs found → found ≡ highest_cover viewed sort L v h
  same_cover h rs alike found one = go found (highest_cover viewed sort L v h) one (highest_of h)
    where
      go : (x y : Option R) → HighestCover viewed L v rs x → HighestOf h y → x ≡ y
      go None None one other = refl
      go None (Some y) one other = let a = alike (viewed y) other.0 in let b = one (viewed y) other.0 in let c = other.1 in grind (arith, common_steps)
      go (Some x) None one other = let a = alike (viewed x) one.0 in let b = other (viewed x) one.0 in let c = one.1 in grind (arith, common_steps)
      go (Some x) (Some y) one other = elim (cases_lt (viewed x) (viewed y)) [
        | inl up ↦ let a = alike (viewed y) other.0 in let b = one.2 (viewed y) up other.0 in let c = other.1 in grind (arith, common_steps)
        | inr low ↦ elim (cases_lt (viewed y) (viewed x)) [
          | inl down ↦ let a = alike (viewed x) one.0 in let b = other.2 (viewed x) down one.0 in let c = one.1 in grind (arith, common_steps)
          | inr high ↦ let e : viewed x ≡ viewed y = omega arith in let a = alike (viewed x) one.0 in let b = one.1 in let c = other.1 in grind (arith, common_steps)
        ]
      ]

  -- rows of which none covers the view have none
  pub no_cover : (rs : List R) → ((u : ℕ) → covering L u v ≡ true → lookup viewed u rs ≡ None) → (found : Option R) → HighestCover viewed L v rs found → found ≡ None
  no_cover rs none None one = refl
  no_cover rs none (Some x) one = let a = none (viewed x) one.0 in let b = one.1 in grind (arith, common_steps)
