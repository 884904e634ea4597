-- What calls make of the memory of a member.
use Rattle.std.specs.Prelude.{◌≡◌, ℕ, Bool, not, List, Ok, Result, ◌==◌}
use Rattle.board.specs.Left.{shown}
use Rattle.effects.specs.declared.effect.Effect.{Effect}
use Rattle.kept.specs.Keeping.{parsing, sort_of, view_in}
use Rattle.kept.specs.declared.row.Kept.{Kept}
use Rattle.hosted.specs.Members.{Values}
use Rattle.driven.specs.Lists.{listed_as}
use Rattle.driven.specs.Members.{values_of, asks_of, kept_as}
use Rattle.driven.specs.declared.listed.Listed.{Listed}
use Rattle.driven.specs.declared.member.Member.{Member}
use Rattle.resolver.specs.Applied.{applied}
use Rattle.resolver.specs.Calls.{answer_of}
use Rattle.resolver.specs.declared.fault.Fault.{Fault}
use Rattle.state.specs.Answers.{if_read, evidence_answer, verdict_answer, marker_answer}
use Rattle.store.specs.Steps.{updated, updated_effects, certified, certified_effects, replayed, replayed_effects}

-- nothing changed
pub record Same (m m' : Member) (e e' : Listed) : Type 0 where
  pub member : m' ≡ m
  pub effects : e' ≡ e

-- a call left these values and had these effects, and the open asks follow
pub record Went (m m' : Member) (e e' : Listed) (s : Values) (fs : List Effect) : Type 0 where
  pub member : m' ≡ kept_as s (shown (applied fs (asks_of m))) m
  pub values : values_of m' ≡ s
  pub asks : asks_of m' ≡ shown (applied fs (asks_of m))
  pub effects : e' ≡ listed_as fs e

-- whether a flag is set
abbrev pub is_set : ℕ → Bool
is_set n = not (n == 0)

abbrev pub Answer : Type 0
Answer = Result (Unit {0}) Fault

-- evidence
abbrev pub update_answer : Member → List ℕ → Answer
update_answer m bs = answer_of (if_read (parsing bs) (λ x. evidence_answer m.head.term_length (sort_of x) x (values_of m)))

abbrev pub Updated : List ℕ → Member → Member → Listed → Listed → Type 0
Updated bs m m' e e' = (x : Kept) × (parsing bs ≡ Ok x) × Went m m' e e' (updated m.head.term_length (sort_of x) x (values_of m)) (updated_effects m.head.term_length (sort_of x) x (values_of m))

-- a verdict
abbrev pub verdict_told : Member → List ℕ → Bool → Answer
verdict_told m bs pass = answer_of (if_read (parsing bs) (λ x. verdict_answer m.head.term_length pass (sort_of x) (view_in x) (values_of m)))

abbrev pub Certified : List ℕ → Bool → Member → Member → Listed → Listed → Type 0
Certified bs pass m m' e e' = (x : Kept) × (parsing bs ≡ Ok x) × Went m m' e e' (certified m.head.term_length pass x (values_of m)) (certified_effects m.head.term_length pass x (values_of m))

-- the marker
abbrev pub marker_told : Member → Answer
marker_told m = answer_of (marker_answer m.head.term_length (values_of m))

abbrev pub Replayed : Member → Member → Listed → Listed → Type 0
Replayed m m' e e' = Went m m' e e' (replayed m.head.term_length (values_of m)) (replayed_effects m.head.term_length (values_of m))
