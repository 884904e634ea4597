-- When each call is refused, and with which fault: the first test that fails.
use Rattle.std.specs.Prelude.{ℕ, ◌^◌, max, Bool, true, false, not, ◌&&◌, ◌||◌, length, Ok, Err, Result, nat_le, nat_lt}
use Rattle.record.specs.declared.kind.Kind.{Kind}
use Rattle.record.specs.declared.kind.Kind.TheVariants.{Notarization, Nullification, Finalization}
use Rattle.record.specs.declared.fault.Fault.{Fault as Misread}
use Rattle.views.specs.declared.Viewable as viewable
use Rattle.store.specs.Values.{Values, gaps_of}
use Rattle.store.specs.Room.{row_due, rows_held, verdict_due, verdict_rows}
use Rattle.store.specs.Steps.{before_planning}
use Rattle.state.specs.declared.fault.Fault.{Fault}
use Rattle.state.specs.declared.fault.Fault.TheVariants.{Record, NotANotarization, ViewTooHigh, TableFull, TooManyGaps}

abbrev pub Answer : Type 0
Answer = Result (Unit {0}) Fault

-- refused with a fault if the test says so, else what the later tests say
abbrev pub refused_if : Bool → Fault → Answer → Answer
refused_if true f later = Err f
refused_if false f later = later

-- the host's places: 256 for effects, and those that the state was made over
abbrev pub too_few : Bool → ℕ → Bool
too_few fit places = not fit || nat_lt places 256

abbrev pub is_notarization : Kind → Bool
is_notarization Notarization = true
is_notarization Nullification = false
is_notarization Finalization = false

module _ {R : Type 0} {g : viewable.Ghosts R} (L : ℕ) where
  -- the floor after evidence: only a finalization raises it
  abbrev pub floor_after : Kind → ℕ → Values R g → ℕ
  floor_after Nullification v s = s.floor
  floor_after Notarization v s = s.floor
  floor_after Finalization v s = max s.floor v

  -- more gaps would stand after evidence above the highest view
  abbrev pub gaps_over : Kind → R → Values R g → Bool
  gaps_over k h s = not s.replaying && (nat_lt s.current (g.viewed h) && nat_lt 128 (length (gaps_of L (before_planning L k h s))))

  -- evidence that is a record
  unfoldable pub evidence_answer : Kind → R → Values R g → Answer
  evidence_answer k h s =
      refused_if (nat_lt (2 ^ 62) (g.viewed h)) ViewTooHigh
      (refused_if (row_due L k (g.viewed h) s && nat_le 128 (rows_held L k s)) TableFull
      (refused_if (gaps_over k h s) TooManyGaps (Ok tt)))

  -- a verdict on what is a record
  unfoldable pub verdict_answer : Bool → Kind → ℕ → Values R g → Answer
  verdict_answer b k v s =
      refused_if (not (is_notarization k)) NotANotarization
      (refused_if (nat_lt (2 ^ 62) v) ViewTooHigh
      (refused_if (verdict_due L b v s && nat_le 128 (verdict_rows L b s)) TableFull (Ok tt)))

  -- the marker
  unfoldable pub marker_answer : Values R g → Answer
  marker_answer s = refused_if (nat_lt 128 (length (gaps_of L s))) TooManyGaps (Ok tt)

-- what is read from bytes goes on to the later tests
abbrev pub if_read : {R : Type 0} → Result R Misread → (R → Answer) → Answer
if_read (Ok r) later = later r
if_read (Err f) later = Err (Record f)
