use Rattle.std.proofs.Common.{map, arith, rules}
use Rattle.std.proofs.lemmas.List.{length-append, length-map}
use Rattle.effects.specs.Lists.{Added}
use Rattle.store.specs.Values.{values}
use Rattle.store.specs.Ready.{length_of, Turned}
use Rattle.store.specs.Steps.{ended, planned, planned_effects, replayed, failed_bare, failed_fetch}
use Rattle.store.proofs.Turns.{added_next}
use Rattle.store.proofs.store.Store.replayed.Goals as goal

pub returns-clause-added : goal.returns-clause-added
unfolding planned failed_bare
returns-clause-added g c = λ low free.
    let a = c.args.self.now in
    let L = length_of a in
    let asked = planned_effects L a.current_view (ended L (values a)) in
    let sum = length-append asked (map failed_fetch (failed_bare L (values a))) in
    let there : Turned a c.fetch_missing.new.self (replayed L (values a)) = search rules in
    let one : Added asked c.args.effects.now c.fetch_missing.new.effects = c.fetch_missing.ensures.added (search rules) (omega (arith, free, sum)) in
    added_next _ _ _ there _ (λ n s. map failed_fetch (failed_bare n s)) _ _ _ one (omega (arith, free, sum)) (λ left. c.fetch_failed.ensures (rw length-map at left))
