-- What waits, and what offering and emptying make of it.
use Rattle.std.specs.Prelude.{ℕ, ◌-◌, ◌==◌, Bool, true, false, cond, not, ◌&&◌, ◌||◌, List, [], ◌∷◌, ◌++◌, length, take, drop, filter, is_some, Option, Some, None, Result, Ok, Err, nat_le, slice_set, slice_index_or}
use Rattle.std.specs.List.{position}
use Rattle.record.specs.declared.kind.Kind.TheVariants.{Finalization}
use Rattle.queue.specs.declared.fault.Fault.{Fault}
use Rattle.queue.specs.declared.fault.Fault.TheVariants.{Full}
use Rattle.queue.specs.declared.message.Message.{Message}
use Rattle.queue.specs.declared.message.Message.TheVariants.{Updated, Certified, Resolve, Replayed}
use Rattle.queue.specs.Messages.{view_of, is_marker, is_finalization, stays_past, repeats, asks_all, widened}

-- the held finalization, and the messages that wait, in the order in which they came
pub record Queue (P : Type 0) : Type 0 where
  pub finalization : Option (Message P)
  pub messages : List (Message P)

-- whether a view is at or below that of what is held
abbrev pub is_outdated : {P : Type 0} → ℕ → Option (Message P) → Bool
is_outdated v None = false
is_outdated v (Some f) = nat_le v (view_of f)

-- what is held is a finalization
abbrev pub is_proper : {P : Type 0} → Option (Message P) → Bool
is_proper None = true
is_proper (Some f) = is_finalization f

-- whether what is held lets a message wait
abbrev pub may_wait : {P : Type 0} → Option (Message P) → Message P → Bool
may_wait None m = true
may_wait (Some f) m = stays_past (view_of f) m

-- a finalization takes its place, and what it settles waits no more
abbrev pub finalized : {P : Type 0} → Message P → Queue P → Queue P
finalized m q = record { finalization = Some m; messages = filter (λ o. stays_past (view_of m) o) q.messages }

abbrev pub is_full : {P : Type 0} → Queue P → Bool
is_full q = nat_le 64 (length q.messages)

-- where there is room, a message waits behind the others
abbrev pub appended : {P : Type 0} → Message P → Queue P → Queue P
appended m q = cond (is_full q) q (record { finalization = q.finalization; messages = q.messages ++ m ∷ [] })

-- where the first message stands that says the same
abbrev pub found_at : {P : Type 0} → Message P → List (Message P) → Option ℕ
found_at m ms = position (λ o. repeats m o) ms

abbrev pub is_repeated : {P : Type 0} → Message P → List (Message P) → Bool
is_repeated m ms = is_some (found_at m ms)

abbrev pub widened_at : {P : Type 0} → Option ℕ → Message P → List (Message P) → List (Message P)
widened_at None m ms = ms
widened_at (Some i) m ms = slice_set ms i (widened (slice_index_or ms i m))

-- a request with no target leaves none to the one that it repeats
abbrev pub merged : {P : Type 0} → Message P → List (Message P) → List (Message P)
merged m ms = cond (asks_all m) (widened_at (found_at m ms) m ms) ms

abbrev pub joined : {P : Type 0} → Message P → Queue P → Queue P
joined m q = cond (is_repeated m q.messages) (record { finalization = q.finalization; messages = merged m q.messages }) (appended m q)

-- what is at or below the held finalization is dropped
unfoldable pub offered : {P : Type 0} → Message P → Queue P → Queue P
offered Replayed q = appended Replayed q
offered (Updated Finalization v p) q = cond (is_outdated v q.finalization) q (finalized (Updated Finalization v p) q)
offered (Updated k v p) q = cond (is_outdated v q.finalization) q (joined (Updated k v p) q)
offered (Certified k v s p) q = cond (is_outdated v q.finalization) q (joined (Certified k v s p) q)
offered (Resolve w v k t) q = cond (is_outdated v q.finalization) q (joined (Resolve w v k t) q)

-- whether it would wait behind the others
abbrev pub is_appended : {P : Type 0} → Message P → Queue P → Bool
is_appended m q = is_marker m || (not (is_outdated (view_of m) q.finalization) && (not (is_finalization m) && not (is_repeated m q.messages)))

abbrev pub finds_full : {P : Type 0} → Message P → Queue P → Bool
finds_full m q = is_appended m q && is_full q

abbrev pub offer_answer : {P : Type 0} → Message P → Queue P → Result (Unit {0}) Fault
offer_answer m q = cond (finds_full m q) (Err Full) (Ok tt)

abbrev pub drained_from : {P : Type 0} → ℕ → Option (Message P) → List (Message P) → List (Message P) × Queue P
drained_from n None ms = (take n ms, record { finalization = None; messages = drop n ms })
drained_from n (Some f) ms = cond (n == 0) ([], record { finalization = Some f; messages = ms }) (f ∷ take (n - 1) ms, record { finalization = None; messages = drop (n - 1) ms })

-- what comes out where there is room for so many, the held finalization first, and what is left
unfoldable pub drained : {P : Type 0} → ℕ → Queue P → List (Message P) × Queue P
drained n q = drained_from n q.finalization q.messages
