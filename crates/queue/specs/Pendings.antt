-- What waits in a host's memory.
use Rattle.std.specs.Prelude.{List, take}
use Rattle.slot.specs.Slots.{held}
use Rattle.queue.specs.declared.message.Message.{Message}
use Rattle.queue.specs.declared.pending.Pending.{Pending}
use Rattle.queue.specs.Queues.{Queue}

abbrev pub waiting_of : {P : Type 0} → Pending P → List (Message P)
waiting_of p = take p.len p.messages.now

abbrev pub queue_of : {P : Type 0} → Pending P → Queue P
queue_of p = record { finalization = held p.finalization; messages = waiting_of p }
