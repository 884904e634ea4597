use Rattle.std.proofs.Common.{subst, ap, ◌∙◌}
use Rattle.state.specs.States.{epoch_of}
use Rattle.stepping.specs.Carried.{Brought}
use Rattle.steps.specs.Records.{record_of}
use Rattle.stepping.proofs.member.Member.carry_out.Goals as goal

pub returns-in-Deliver : goal.returns-in-Deliver
returns-in-Deliver g c =
    let m = c.args.self.now in
    let n = c.deliver.new.self in
    let d = c.in-Deliver in
    let bytes = c.record_bytes-bytes.ensures ∙ ap (λ e. record_of e d.kind d.at) c.epoch-in-Deliver.ensures in
    let of_bytes = subst (λ bs. Brought g.B.Board.asks c.deliver.result m n d.view c.as_slice.result.now bs) bytes c.deliver.ensures in
    rw c.in-Deliver.is (subst (λ qs. Brought g.B.Board.asks c.deliver.result m n d.view qs (record_of (epoch_of m.resolver.calls.state) d.kind d.at)) c.as_slice.ensures of_bytes)
