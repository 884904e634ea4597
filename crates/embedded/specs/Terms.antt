-- What is told of terms, whose length a host gives as a number.
use Rattle.std.specs.Prelude.{ℕ, ◌^◌, cond, Ok, Err, Result, ◌==◌, nat_le}
use Rattle.terms.specs.Faults.{refusal_of}
use Rattle.terms.specs.Terms.{end, next}
use Rattle.terms.specs.declared.fault.Fault.{Fault}
use Rattle.terms.specs.declared.fault.Fault.TheVariants.{ZeroLength, ViewTooHigh}
use Rattle.embedded.specs.declared.told.Told.{Told}
use Rattle.embedded.specs.Told.{fine, refused}

abbrev pub told : Result ℕ Fault → Told
told (Ok n) = fine n
told (Err f) = refused (refusal_of f)

-- a term has a view
abbrev pub with_length : ℕ → Result ℕ Fault → Result ℕ Fault
with_length L r = cond (L == 0) (Err ZeroLength) r

-- a term's end is told up to view 2^62
abbrev pub end_of : ℕ → ℕ → Result ℕ Fault
end_of L v = cond (nat_le v (2 ^ 62)) (Ok (end L v)) (Err ViewTooHigh)

abbrev pub next_of : ℕ → ℕ → Result ℕ Fault
next_of L v = cond (nat_le v (2 ^ 62)) (Ok (next L v)) (Err ViewTooHigh)
