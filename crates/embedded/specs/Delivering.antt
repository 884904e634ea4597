-- What comes of a delivery.
use Rattle.std.specs.Prelude.{◌≡◌, ℕ, Bool, true, false, cond, List, [], ◌∷◌, Some, Result, ◌==◌}
use Rattle.board.specs.declared.ask.Ask.{Ask}
use Rattle.board.specs.declared.ask.Ask.TheVariants.{Background, Ancestry}
use Rattle.effects.specs.declared.effect.Kind.TheVariants.{Nullification, Notarization}
use Rattle.kept.specs.Keeping.{parsing, sort_of, view_in, epoch_in}
use Rattle.kept.specs.Seats.{kept_accepted}
use Rattle.kept.specs.declared.row.Kept.{Kept}
use Rattle.driven.specs.Lists.{listed_as}
use Rattle.driven.specs.Members.{values_of}
use Rattle.driven.specs.declared.listed.Listed.{Listed}
use Rattle.driven.specs.declared.member.Member.{Member}
use Rattle.resolver.specs.Deliveries.{if_valid, is_valid, delivery_answer, delivery_test, tested}
use Rattle.resolver.specs.declared.fault.Fault.{Fault}
use Rattle.resolver.specs.declared.outcome.Delivered as come
use Rattle.resolver.specs.declared.outcome.Outcome.{Outcome}
use Rattle.resolver.specs.declared.outcome.Outcome.TheVariants.{Ignored, Invalid, Unresolved, Partial, Complete, LetGo}
use Rattle.store.specs.Steps.{updated, updated_effects}
use Rattle.embedded.specs.Calls.{Went}

-- the asks of some bits; none if there is another
abbrev pub asks_in : ℕ → List Ask
asks_in n =
    cond (n == 1) (Background ∷ [])
    (cond (n == 2) (Ancestry Nullification ∷ [])
    (cond (n == 3) (Background ∷ Ancestry Nullification ∷ [])
    (cond (n == 4) (Ancestry Notarization ∷ [])
    (cond (n == 5) (Background ∷ Ancestry Notarization ∷ [])
    (cond (n == 6) (Ancestry Nullification ∷ Ancestry Notarization ∷ [])
    (cond (n == 7) (Background ∷ Ancestry Nullification ∷ Ancestry Notarization ∷ []) []))))))

abbrev pub outcome_number : Outcome → ℕ
outcome_number Ignored = 1
outcome_number Invalid = 2
outcome_number Unresolved = 3
outcome_number Partial = 4
outcome_number Complete = 5
outcome_number LetGo = 6

-- whether a record passes, for a member and a view
abbrev pub passes : Member → ℕ → Kept → Bool
passes m v = is_valid m.head.term_length sort_of view_in epoch_in (kept_accepted m.head.seats m.head.quorum) m.head.epoch v

abbrev pub delivery_told : Member → ℕ → ℕ → List ℕ → Result come.Delivered Fault
delivery_told m v n bs = tested (delivery_test true 256 (asks_in n)) (delivery_answer m.head.term_length sort_of (asks_in n) v (passes m v) (parsing bs) (values_of m))

-- what was taken is recorded as evidence; where nothing was, the list is empty
abbrev pub Delivered : Bool → ℕ → List ℕ → Member → Member → Listed → Listed → Type 0
Delivered true v bs m m' e e' = (x : Kept) × (if_valid (passes m v) (parsing bs) ≡ Some x) × Went m m' e e' (updated m.head.term_length (sort_of x) x (values_of m)) (updated_effects m.head.term_length (sort_of x) x (values_of m))
Delivered false v bs m m' e e' = (m' ≡ m) × (e' ≡ listed_as [] e)
