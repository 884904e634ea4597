-- What came of a call, in numbers.
use Rattle.std.specs.Prelude.{ℕ, Bool, cond, Ok, Err, Result}
use Rattle.refusals.specs.declared.Refusal.{Refusal}
use Rattle.resolver.specs.Faults.{refusal_of}
use Rattle.resolver.specs.declared.fault.Fault.{Fault}
use Rattle.embedded.specs.Told.{layer_number}
use Rattle.embedded.specs.declared.answer.Answer.{Answer}

abbrev pub done : ℕ → Bool → Answer
done n b = record { refusal = 0; layer = 0; value = n; taken = cond b 1 0 }

abbrev pub refusing : Refusal → Answer
refusing r = record { refusal = r.number; layer = layer_number r.layer; value = 0; taken = 0 }

-- the memory holds what no calls leave
abbrev pub unsound : Answer
unsound = record { refusal = 16; layer = 8; value = 0; taken = 0 }

-- a number names no kind of ask
abbrev pub unknown : Answer
unknown = record { refusal = 17; layer = 8; value = 0; taken = 0 }

-- what came of it, or the refusal
abbrev pub answered : {X : Type 0} → (X → Answer) → Result X Fault → Answer
answered f (Ok x) = f x
answered f (Err e) = refusing (refusal_of e)
