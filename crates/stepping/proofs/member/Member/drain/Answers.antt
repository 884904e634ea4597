use Rattle.std.proofs.Common.{rules, ap, refl, ◌∙◌, arith}
use Rattle.std.proofs.lemmas.List.{length-take-le}
use Rattle.queue.specs.Pendings.{queue_of}
use Rattle.queue.specs.Queues as queues
use Rattle.stepping.proofs.InTurn.{front, drained_step}
use Rattle.stepping.proofs.member.Member.drain.Goals as goal

pub returns : goal.returns
returns g c =
    let q = queue_of c.args.self.now.queue in
    let out = front _ _ _ _ _ c.drain-drained.ensures.count c.drain-drained.ensures.list in
    let places = length-take-le _ _ (search (rules, arith)) ∙ c.min-places.ensures in
    let room = ap (λ n. (queues.drained n q).0) places in (
      drained_step g.B.Board.asks _ _ c.args.self.now _ c.call_with_each.new.self c.args.tally.now _ c.call_with_each.new.tally c.call_with_each.ensures.called c.add.ensures (out ∙ room) (record { resolver = refl; board = refl; verifier = refl; effects = refl }),
      ap (λ p. queue_of p) c.call_with_each.ensures.queue ∙ c.drain-drained.ensures.queue ∙ ap (λ n. (queues.drained n q).1) places,
    )
