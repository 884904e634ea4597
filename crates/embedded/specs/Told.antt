-- What a call tells a host in numbers.
use Rattle.std.specs.Prelude.{ℕ}
use Rattle.refusals.specs.declared.Layer.{Layer}
use Rattle.refusals.specs.declared.Layer.TheVariants.{Terms, Record, State, Verifier, Board, Queue, Resolver}
use Rattle.refusals.specs.declared.Refusal.{Refusal}
use Rattle.embedded.specs.declared.told.Told.{Told}

-- the number of each layer
abbrev pub layer_number : Layer → ℕ
layer_number Terms = 1
layer_number Record = 2
layer_number State = 3
layer_number Verifier = 4
layer_number Board = 5
layer_number Queue = 6
layer_number Resolver = 7

abbrev pub fine : ℕ → Told
fine n = record { refusal = 0; layer = 0; value = n }

abbrev pub refused : Refusal → Told
refused r = record { refusal = r.number; layer = layer_number r.layer; value = 0 }
