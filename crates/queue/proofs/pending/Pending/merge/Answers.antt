use Rattle.std.proofs.Common.{◌≡◌, arith, sym, ap, ◌∙◌, Some, true}
use Rattle.slot.specs.Slots.{held}
use Rattle.queue.specs.Messages.{asks_all}
use Rattle.queue.specs.Pendings.{waiting_of}
use Rattle.queue.specs.Queues.{found_at}
use Rattle.queue.proofs.Offers.{wider_write, past_write}
use Rattle.queue.proofs.pending.Pending.merge.Goals as goal

pub invariant_of-self : goal.invariant_of-self
invariant_of-self g c =
    let s = c.args.self.now in
    let found : found_at c.args.message.now (waiting_of s) ≡ Some c.in-Some.at = sym c.find.ensures ∙ c.in-Some.is in
    record {
      place = s.place;
      enough = omega (arith, c.widen.auto.messages, s.enough);
      few = s.few;
      proper = s.proper;
      past = past_write (held s.finalization) c.args.message.now s.len s.messages.now c.widen.new.messages c.in-Some.at found c.widen.ensures s.past;
    }

pub returns-then-asks_all-clause-queue : goal.returns-then-asks_all-clause-queue
returns-then-asks_all-clause-queue g c =
    let s = c.args.self.now in
    let found : found_at c.args.message.now (waiting_of s) ≡ Some c.in-Some.at = sym c.find.ensures ∙ c.in-Some.is in
    let all : asks_all c.args.message.now ≡ true = sym c.asks_all.ensures ∙ c.if-asks_all.true in
    ap (λ ms. record { finalization = held s.finalization; messages = ms }) (wider_write c.args.message.now s.len s.messages.now c.widen.new.messages c.in-Some.at found all c.widen.ensures)
