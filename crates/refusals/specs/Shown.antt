-- The words of a refusal.
use Rattle.std.specs.Prelude.{ℕ, List, ◌++◌, codes, decimal}
use Rattle.refusals.specs.declared.Layer.{Layer}
use Rattle.refusals.specs.declared.Layer.TheVariants.{Terms, Record, State, Verifier, Board, Queue, Resolver}
use Rattle.refusals.specs.declared.Refusal.{Refusal}

abbrev pub layer_name : Layer → List ℕ
layer_name Terms = codes "terms"
layer_name Record = codes "record"
layer_name State = codes "state"
layer_name Verifier = codes "verifier"
layer_name Board = codes "board"
layer_name Queue = codes "queue"
layer_name Resolver = codes "resolver"

-- `refused NUMBER LAYER`
abbrev pub refusal_text : Refusal → List ℕ
refusal_text r = codes "refused " ++ (decimal r.number ++ (codes " " ++ layer_name r.layer))
