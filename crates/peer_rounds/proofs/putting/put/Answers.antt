use Rattle.std.proofs.Common.{◌≡◌, map, ap, subst, vec_items, ◌∙◌}
use Rattle.peer_rounds.specs.Puts.{ask_in, CameOf}
use Rattle.peer_rounds.proofs.Answered.{all_closed}
use Rattle.peer_rounds.proofs.Closed.{settled_is_closed}
use Rattle.peer_rounds.proofs.putting.put.Goals as goal

pub returns-clause-settled_is_closed : goal.returns-clause-settled_is_closed
returns-clause-settled_is_closed g c l = settled_is_closed g.B.Board.asks c.bring-came.new.member (c.bring-came.ensures.lives l)

pub returns-clause-complete : goal.returns-clause-complete
returns-clause-complete g c l e =
    let asks = g.B.Board.asks in
    let m = c.args.member.now in
    let n = c.bring-came.new.member in
    let os = vec_items c.in_ok-asks.asks in
    let same : c.as_slice-2.result.now ≡ map ask_in os = c.as_slice-2.ensures.value ∙ (c.in_ok-wanted.ensures ∙ ap (λ xs. map ask_in xs) c.as_slice.ensures.value) in
    let came = subst (λ qs. CameOf asks c.args.peer.now c.args.view qs c.bring-came.result m n) same c.bring-came.ensures.came in
    all_closed asks c.args.peer.now c.args.view os c.bring-came.result m n came (settled_is_closed asks n (c.bring-came.ensures.lives l)) e
