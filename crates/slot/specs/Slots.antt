-- What a place holds.
use Rattle.std.specs.Prelude.{ℕ, cond, List, [], ◌∷◌, length, Some, None, Option}
use Rattle.slot.specs.declared.Slot.{Slot}

-- the first element, if there is one
abbrev pub first_of : {T : Type 0} → List T → Option T
first_of [] = None
first_of (x ∷ xs) = Some x

abbrev pub held : {T : Type 0} → Slot T → Option T
held s = cond s.full (first_of s.place.now) None

-- how many places the host lent: one is used
abbrev pub places : {T : Type 0} → Slot T → ℕ
places s = length s.place.now
