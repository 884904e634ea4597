use Rattle.std.proofs.Common.{rules, ◌∙◌, ap, subst, refl, length, arith}
use Rattle.std.proofs.lemmas.List.{length-take-le}
use Rattle.std.specs.Io.KnownBytes.{Appends}
use Rattle.queue.specs.Pendings.{queue_of}
use Rattle.queue.specs.Queues as queues
use Rattle.one_member.specs.Drained.{first_line}
use Rattle.one_member.proofs.Drains.{front, drained}
use Rattle.one_member.proofs.member.Member.drain.Goals as goal

pub returns-clause-calls : goal.returns-clause-calls
returns-clause-calls g c =
    let q = queue_of c.args.self.now.queue in
    let u = g.W.Write.contents c.args.out.now in
    let v = g.W.Write.contents c.writeln.new.self in
    let out = front _ _ _ _ _ c.drain-drained.ensures.count c.drain-drained.ensures.list in
    let room = ap (λ n. (queues.drained n q).0) (length-take-le _ _ (search (rules, arith)) ∙ c.min-places.ensures) in
    let count = c.drain-drained.ensures.count ∙ ap length room in
    drained g.B.Board.asks c.call_with_each.result _ _ c.args.self.now _ c.call_with_each.new.self u v (g.W.Write.contents c.call_with_each.new.out) c.call_with_each.ensures.calls
    (out ∙ room)
    (record { resolver = refl; board = refl; verifier = refl; effects = refl; seats = refl })
    (subst (λ n. Appends u v (first_line n)) count (search rules))
