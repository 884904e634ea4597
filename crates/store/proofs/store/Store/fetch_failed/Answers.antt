use Rattle.std.proofs.Common.{◌≡◌, ◌<◌, map, length, get_or, take, filter, sym, subst, arith}
use Rattle.std.proofs.lemmas.List.{length-map, get_or-map}
use Rattle.store.specs.Values.{values, mark, mark_view}
use Rattle.store.specs.Ready.{length_of}
use Rattle.store.specs.Steps.{is_bare, bare_effects, failed_bare, failed_fetch}
use Rattle.store.proofs.Fetching.{one_more, one_fits}
use Rattle.store.proofs.Turns.{added_then}
use Rattle.store.proofs.store.Store.fetch_failed.Goals as goal

pub loop-mark-preserved : goal.loop-mark-preserved
unfolding failed_bare
loop-mark-preserved g c = λ room.
    let s = c.args.self.now in
    let p = is_bare (length_of s) (values s) in
    let fs = (values s).failed in
    let xs = map mark_view fs in
    let i = c.loop-mark.mark-index in
    let rows = c.as_slice-mark-items.ensures.rows in
    let v = mark_view (get_or fs i (mark 0)) in
    let within : i < length fs = subst (λ ms. i < length ms) rows c.loop-mark-test.true in
    let in' : i < length xs = omega (arith, within, length-map fs mark_view) in
    let is : v ≡ get_or xs i 0 = sym (get_or-map mark_view fs i (mark 0) 0 within) in
    let more = bare_effects (length_of s) v (values s) in
    rw (one_more p xs i v in' is) (added_then (map failed_fetch (filter p (take i xs))) more (length more) _ _ _ (c.loop-mark.invariant room) (omega (arith, room, one_fits p xs i v in' is)) (rw rows at c.fetch_bare.ensures))
