-- The format of a stream: a header of 32 bytes, and steps of 24 bytes each. Numbers stand with the highest byte first.
use Rattle.std.specs.Prelude.{◌≡◌, ℕ, zero, suc, ◌*◌, ◌/◌, ◌%◌, ◌<◌, Bool, true, false, cond, ◌&&◌, List, length, drop, bit_and, is_ok, Some, None, Option, Ok, Err, Result, ◌==◌, nat_lt, nat_le, slice_index}
use Rattle.effects.specs.declared.effect.Kind.{Kind as Ask}
use Rattle.effects.specs.declared.effect.Kind.TheVariants as ask
use Rattle.record.specs.Numbers.{part, number}
use Rattle.record.specs.declared.kind.Kind.{Kind}
use Rattle.record.specs.declared.kind.Kind.TheVariants.{Notarization, Nullification, Finalization}
use Rattle.steps.specs.declared.fault.Fault.{Fault}
use Rattle.steps.specs.declared.fault.Fault.TheVariants.{ShortHeader, ZeroLength, UnknownBoard, PartOfAStep, UnknownOperation, UnknownKind, UnknownAsks, UnknownOffer}
use Rattle.steps.specs.declared.fields.Fields.{Fields}
use Rattle.steps.specs.declared.header.BoardKind.{BoardKind}
use Rattle.steps.specs.declared.header.BoardKind.TheVariants.{Rows, List as Listing}
use Rattle.steps.specs.declared.header.Header.{Header}
use Rattle.steps.specs.declared.step.AskSet.{AskSet}
use Rattle.steps.specs.declared.step.Call.{Call as Calling}
use Rattle.steps.specs.declared.step.Call.TheVariants.{Updated, Certified, Replayed, Resolve}
use Rattle.steps.specs.declared.step.Order.TheVariants.{Call, Offer, Deliver, Settled, Produce}
use Rattle.steps.specs.declared.step.Step.{Step}
use Rattle.steps.specs.declared.step.Step.TheVariants.{Order, Drain}
use Rattle.terms.specs.Terms.{views}

abbrev pub bind : {A B : Type 0} → Result A Fault → (A → Result B Fault) → Result B Fault
bind (Ok a) f = f a
bind (Err e) f = Err e

-- the first test that a header fails
abbrev pub header_test : List ℕ → Result (Unit {0}) Fault
header_test bs = cond (nat_lt (length bs) 32) (Err ShortHeader) (cond (number (part 0 4 bs) == 0) (Err ZeroLength) (cond (nat_le (number (part 4 4 bs)) 1) (Ok tt) (Err UnknownBoard)))

abbrev pub board_number : BoardKind → ℕ
board_number Rows = 0
board_number Listing = 1

-- the fields of a header, by their places
pub record Heads (bs : List ℕ) (h : Header) : Type 0 where
  pub term_length : views h.term_length ≡ number (part 0 4 bs)
  pub board : board_number h.board ≡ number (part 4 4 bs)
  pub epoch : h.epoch ≡ number (part 8 8 bs)
  pub span : h.span ≡ number (part 16 8 bs)
  pub passes : h.passes ≡ number (part 24 8 bs)

-- the fields of a step, by their places
unfoldable pub fields_of : List ℕ → Fields
fields_of bs = record { operation = slice_index bs 0; kind = slice_index bs 1; asks = slice_index bs 2; offered = slice_index bs 3; seat = number (part 4 4 bs); view = number (part 8 8 bs); second = number (part 16 8 bs) }

abbrev pub fields_read : List ℕ → Result Fields Fault
fields_read bs = cond (length bs == 24) (Ok (fields_of bs)) (Err PartOfAStep)

abbrev pub record_kind : ℕ → Result Kind Fault
record_kind b = cond (b == 1) (Ok Notarization) (cond (b == 2) (Ok Nullification) (cond (b == 3) (Ok Finalization) (Err UnknownKind)))

abbrev pub ask_kind : ℕ → Result Ask Fault
ask_kind b = cond (b == 0) (Ok ask.Nullification) (cond (b == 1) (Ok ask.Notarization) (Err UnknownKind))

-- all 32 bits set is no target
abbrev pub target_of : ℕ → Option ℕ
target_of seat = cond (seat == 4294967295) None (Some seat)

-- a bit for each ask
abbrev pub ask_set_of : ℕ → Result AskSet Fault
ask_set_of b = cond (nat_le b 7) (Ok (record { background = bit_and b 1 == 1; nullification = bit_and b 2 == 2; notarization = bit_and b 4 == 4 })) (Err UnknownAsks)

-- the operations 1 to 5, which may be offered too
unfoldable pub call_in : Fields → Result Calling Fault
call_in f =
    cond (f.operation == 1) (bind (record_kind f.kind) (λ k. Ok (Updated k f.view)))
    (cond (f.operation == 2) (bind (record_kind f.kind) (λ k. Ok (Certified true k f.view)))
    (cond (f.operation == 3) (bind (record_kind f.kind) (λ k. Ok (Certified false k f.view)))
    (cond (f.operation == 4) (Ok Replayed)
    (cond (f.operation == 5) (bind (ask_kind f.kind) (λ k. Ok (Resolve f.second f.view k (target_of f.seat))))
    (Err UnknownOperation)))))

-- the operations 6 to 9, and else a call
unfoldable pub step_in : Fields → Result Step Fault
step_in f =
    cond (f.operation == 6) (bind (record_kind f.kind) (λ k. bind (ask_set_of f.asks) (λ a. Ok (Order (Deliver f.view k f.second a)))))
    (cond (f.operation == 7) (bind (ask_kind f.kind) (λ k. Ok (Order (Settled f.view k))))
    (cond (f.operation == 8) (Ok (Order (Produce f.view)))
    (cond (f.operation == 9) (Ok (Drain f.view))
    (bind (call_in f) (λ c. Ok (Order (Call c)))))))

abbrev pub offered_in : Fields → Result Step Fault
offered_in f = cond (f.offered == 0) (step_in f) (cond (f.offered == 1) (bind (call_in f) (λ c. Ok (Order (Offer c)))) (Err UnknownOffer))

unfoldable pub step_of : List ℕ → Result Step Fault
step_of bs = bind (fields_read bs) offered_in

-- the bytes of the step at a place
abbrev pub step_bytes : ℕ → List ℕ → List ℕ
step_bytes i bs = part (24 * i) 24 bs

-- whether each of the first n steps can be read
unfoldable pub readable : ℕ → List ℕ → Bool
readable zero bs = true
readable (suc n) bs = readable n bs && is_ok (step_of (step_bytes n bs))

-- the first step that cannot be read fails so
pub record FailsAt (f : Fault) (bs : List ℕ) : Type 0 where
  pub place : ℕ
  pub among : place < length bs / 24
  pub before : readable place bs ≡ true
  pub fails : step_of (step_bytes place bs) ≡ Err f

-- the header, and then whole steps
pub record IsStream (bs : List ℕ) (h : Header) (steps : List ℕ) : Type 0 where
  pub tested : header_test bs ≡ Ok tt
  pub heads : Heads bs h
  pub follow : steps ≡ drop 32 bs
  pub whole : length steps % 24 ≡ 0

-- the first of three tests that fails: of the header, of the length, and of each step
pub data Damaged (f : Fault) (bs : List ℕ) : Type 0 where
  in_header : header_test bs ≡ Err f → Damaged f bs
  in_length : header_test bs ≡ Ok tt → 0 < length (drop 32 bs) % 24 → f ≡ PartOfAStep → Damaged f bs
  in_step : header_test bs ≡ Ok tt → length (drop 32 bs) % 24 ≡ 0 → FailsAt f (drop 32 bs) → Damaged f bs
