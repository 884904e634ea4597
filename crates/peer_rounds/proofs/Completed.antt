-- What a delivery whose outcome is Complete leaves: each of its asks is settled.
use Rattle.std.proofs.Common.{◌≡◌, ℕ, ◌≤◌, Bool, true, List, [], ◌∷◌, map, length, filter, Some, None, Option, Ok, Err, Result, refl, sym, ap, inl, inr, ◌∙◌, arith}
use Rattle.std.proofs.lemmas.Bool.{cases_Bool}
use Rattle.std.proofs.lemmas.Grind.{common_steps}
use Rattle.std.specs.List.{AllByRecursion}
use Rattle.board.specs.declared.ask.Ask.{Ask}
use Rattle.board.specs.declared.open.Open.{Open}
use Rattle.peer_rounds.specs.Puts.{ask_in}
use Rattle.record.specs.declared.fault.Fault.{Fault as Misread}
use Rattle.record.specs.declared.kind.Kind.{Kind}
use Rattle.resolver.specs.Deliveries.{outcome_of, settled_asks, is_obsolete, if_valid, if_taken, if_parsed, judged, delivery_answer, tested, untaken, with_taken}
use Rattle.resolver.specs.declared.fault.Fault.{Fault}
use Rattle.resolver.specs.declared.outcome.Delivered.{Delivered}
use Rattle.resolver.specs.declared.outcome.Outcome.{Outcome}
use Rattle.resolver.specs.declared.outcome.Outcome.TheVariants.{Ignored, Invalid, Complete}
use Rattle.state.specs.Answers.{Answer, evidence_answer}
use Rattle.state.specs.Settled.{key_settled}
use Rattle.store.specs.Steps.{updated}
use Rattle.store.specs.Values.{Values}
use Rattle.views.specs.declared.Viewable as viewable

-- the outcome is Complete only where more are settled after than before, and all
all_after : (n before after : ℕ) → outcome_of n before after ≡ Complete → after ≡ n
all_after n before after e = grind (arith, common_steps)

never_same : (n before : ℕ) → outcome_of n before before ≡ Complete → ⊥
never_same n before e = grind (arith, common_steps)

if_done : (a : Answer) (o : Outcome) (d : Delivered) → if_taken a (with_taken o) ≡ Ok d → (d ≡ with_taken o)
if_done (Ok x) o d e = grind (arith, common_steps)
if_done (Err f) o d e = absurd (grind (arith, common_steps))

pub tested_later : {X : Type 0} (t : Result (Unit {0}) Fault) (later : Result X Fault) (d : X) → tested t later ≡ Ok d → later ≡ Ok d
tested_later (Ok u) later d e = e
tested_later (Err f) later d e = absurd (grind (arith, common_steps))

module _ {R : Type 0} {g : viewable.Ghosts R} (L : ℕ) (sort : R → Kind) (qs : List Ask) (v : ℕ) (s : Values R g) (d : Delivered) (complete : d.outcome ≡ Complete) where
  -- the record was taken, and each of the asks is settled after it
  pub record Settling (r : R) : Type 0 where
    pub taken : d.taken ≡ true
    pub all : settled_asks L v qs (updated L (sort r) r s) ≡ length qs

  judged_complete : (r : R) → judged L sort qs v r s ≡ Ok d → Settling r
  judged_complete r e = elim (cases_Bool (is_obsolete (sort r) (g.viewed r) s)) [
    | inl t ↦
        let before = settled_asks L v qs s in
        let same : outcome_of (length qs) before before ≡ d.outcome = grind (arith, common_steps) in
        absurd (never_same (length qs) before (same ∙ complete))
    | inr f ↦
        let before = settled_asks L v qs s in
        let after = settled_asks L v qs (updated L (sort r) r s) in
        let is : if_taken (evidence_answer L (sort r) r s) (with_taken (outcome_of (length qs) before after)) ≡ Ok d = grind (arith, common_steps) in
        let done = if_done (evidence_answer L (sort r) r s) (outcome_of (length qs) before after) d is in
        record { taken = ap (λ x. x.taken) done; all = all_after (length qs) before after (sym (ap (λ x. x.outcome) done) ∙ complete) }
  ]

  parsed_complete : (x : Option R) → if_parsed x (Ok (untaken Invalid)) (λ r. judged L sort qs v r s) ≡ Ok d → (r : R) × (x ≡ Some r) × Settling r
  parsed_complete None e =
      let same : Invalid ≡ d.outcome = grind (arith, common_steps) in
      let never : Invalid ≡ Complete = same ∙ complete in
      absurd (grind (arith, common_steps))
  parsed_complete (Some r) e = (r, refl, judged_complete r e)

  pub answer_complete : (valid : R → Bool) (read : Result R Misread) → delivery_answer L sort qs v valid read s ≡ Ok d → (r : R) × (if_valid valid read ≡ Some r) × Settling r
  answer_complete valid read e = elim (cases_Bool (key_settled L v s)) [
    | inl t ↦
        let same : Ignored ≡ d.outcome = grind (arith, common_steps) in
        let never : Ignored ≡ Complete = same ∙ complete in
        absurd (grind (arith, common_steps))
    | inr f ↦ parsed_complete (if_valid valid read) (grind (arith, common_steps))
  ]

-- all pass a test where as many pass as there are
few_pass : {X : Type 0} (p : X → Bool) (xs : List X) → length (filter p xs) ≤ length xs
few_pass p [] = omega arith
few_pass p (x ∷ xs) = let b = few_pass p xs in grind (arith, common_steps)

pub all_pass : {X : Type 0} (p : X → Bool) (xs : List X) → length (filter p xs) ≡ length xs → AllByRecursion (λ x. p x ≡ true) xs
all_pass p [] e = tt
all_pass p (x ∷ xs) e = elim (cases_Bool (p x)) [
  | inl t ↦ (t, all_pass p xs (grind (arith, common_steps)))
  | inr f ↦ let b = few_pass p xs in absurd (grind (arith, common_steps))
]

-- the same of the asks of open ones
pub of_asks : (P : Ask → Type 0) (os : List Open) → AllByRecursion P (map ask_in os) → AllByRecursion (λ o. P o.ask) os
of_asks P [] all = tt
of_asks P (o ∷ os) all = (all.0, of_asks P os all.1)

pub each_more : (P Q : Ask → Type 0) → ((a : Ask) → P a → Q a) → (qs : List Ask) → AllByRecursion P qs → AllByRecursion Q qs
each_more P Q more [] all = tt
each_more P Q more (a ∷ qs) all = (more a all.0, each_more P Q more qs all.1)
