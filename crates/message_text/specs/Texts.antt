-- The words of a message, and of how much waits.
use Rattle.std.specs.Prelude.{ℕ, Bool, true, false, cond, List, [], length, ◌++◌, codes, decimal, is_some, Some, None, Option}
use Rattle.effects.specs.Shown.{kind_name}
use Rattle.queue.specs.Queues.{Queue}
use Rattle.queue.specs.declared.message.Message.{Message}
use Rattle.queue.specs.declared.message.Message.TheVariants.{Updated, Certified, Resolve, Replayed}
use Rattle.record.specs.Kinds.{name_of}

abbrev pub verdict_text : Bool → List ℕ
verdict_text true = codes "pass"
verdict_text false = codes "fail"

abbrev pub seat_text : Option ℕ → List ℕ
seat_text None = []
seat_text (Some s) = codes " " ++ decimal s

abbrev pub message_text : Message (List ℕ) → List ℕ
message_text (Updated k v bs) = codes "updated " ++ (name_of k ++ (codes " " ++ decimal v))
message_text (Certified k v b bs) = codes "certified " ++ (verdict_text b ++ (codes " " ++ (name_of k ++ (codes " " ++ decimal v))))
message_text (Resolve p v k t) = codes "resolve " ++ (decimal p ++ (codes " " ++ (decimal v ++ (codes " " ++ (kind_name k ++ seat_text t)))))
message_text Replayed = codes "replayed"

abbrev pub waiting_text : Queue (List ℕ) → List ℕ
waiting_text q = codes "waiting " ++ (decimal (cond (is_some q.finalization) 1 0) ++ (codes " " ++ decimal (length q.messages)))
