use Rattle.std.proofs.Common.{◌≡◌, Some, arith, take, ap, ◌∙◌}
use Rattle.std.proofs.lemmas.Bool.{cond-true, lt-ltb}
use Rattle.slot.specs.Slots.{held, places}
use Rattle.queue.specs.Queues.{is_proper}
use Rattle.queue.proofs.Offers.{kept_past}
use Rattle.queue.proofs.pending.Pending.finalize.Goals as goal

pub invariant_of-self-2 : goal.invariant_of-self-2
invariant_of-self-2 g c =
    let s = c.args.self.now in
    let holds : held c.put.new.self ≡ Some c.args.message = c.put.ensures.held ∙ cond-true c.put.result (Some c.args.message) (held s.finalization) (c.put.ensures.room ∙ lt-ltb 0 (places s.finalization) (omega (arith, s.place))) in
    record {
      place = omega (arith, c.put.ensures.places, s.place);
      enough = omega (arith, c.retain-self.auto.messages, s.enough);
      few = omega (arith, c.retain-self.ensures.fewer, s.few);
      proper = ap is_proper holds ∙ c.requires;
      past = kept_past c.args.message (held c.put.new.self) c.view.result (take s.len s.messages.now) (take c.retain-self.result c.retain-self.new.messages) holds c.view.ensures c.retain-self.ensures.kept;
    }
