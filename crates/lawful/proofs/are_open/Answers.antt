use Rattle.std.proofs.Common.{rules}
use Rattle.store.specs.Ready.{length_of}
use Rattle.store.specs.Values.{values, finalized}
use Rattle.lawful.proofs.Opens.{start_above, opens, reaches}
use Rattle.lawful.proofs.are_open.Goals as goal

pub overflow_sub-first : goal.overflow_sub-first
overflow_sub-first g c = rw c.term_start-first.ensures.value (rw c.last_finalized.ensures (start_above _ _))

pub returns : goal.returns
returns g c =
    let L = length_of c.args.store.now in
    let f = finalized (values c.args.store.now) in
    let is = c.term_start-first.ensures.value in
    let same = c.last_finalized.ensures in
    let above = c.are_above.ensures in
    let open_if = opens L f c.term_start-first.result c.term_start-first.ensures.ends_past (search rules) in
    let only_if = reaches L f c.term_start-first.result c.term_start-first.ensures.ends_past (search rules) in
    (λ t u held. open_if u (above.0 t u held), λ all. above.1 (λ u held. only_if u (all u held)))
