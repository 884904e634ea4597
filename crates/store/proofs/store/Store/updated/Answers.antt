use Rattle.std.proofs.Common.{◌^◌, ◌≤◌, arith, rules}
use Rattle.effects.specs.Lists.{Added}
use Rattle.store.specs.Values.{values, finalized}
use Rattle.store.specs.Ready.{length_of, Roomy, Low, Turned}
use Rattle.store.specs.Room.{Room}
use Rattle.store.specs.Steps.{seen, taken_effects, planned, planned_effects, before_planning}
use Rattle.store.proofs.Turns.{turned_next, low_next, added_next}
use Rattle.store.proofs.Evidence.{room_seen, taken_few, low_before}
use Rattle.store.proofs.store.Store.updated.Goals as goal

pub returns : goal.returns
unfolding before_planning
returns g c =
    let a = c.args.self.now in
    let L = length_of a in
    let k = c.args.kind in
    let h = c.args.held in
    let v = g.R.Viewable.viewed h in
    let take = rw (c.max-self.ensures, c.view-view.ensures) at c.take.ensures in
    let fetch = rw c.view-view.ensures at c.fetch_missing.ensures in
    let there : Roomy a → finalized (values a) ≤ 2 ^ 62 → v ≤ 2 ^ 62 → Room L k v (values a) → Turned a c.take.new.self (before_planning L k h (values a)) = λ roomy old new room. let t = take.turned (search rules) old new (room_seen L k v _ (values a) room) in record { is = t.is; kept = search rules } in
    let lower : Roomy a → finalized (values a) ≤ 2 ^ 62 → Low (values a) → v ≤ 2 ^ 62 → Room L k v (values a) → Low (values c.take.new.self) = λ roomy old low new room. low_next _ _ _ (there roomy old new room) (low_before L k h (values a) low new) in
    record {
      turned = λ roomy old low new room. turned_next _ _ _ (there roomy old new room) _ (λ n s. planned n s) (fetch.turned (lower roomy old low new room));
      added = λ roomy old low new room free.
          let few = taken_few L k h (seen L v (values a)) in
          let one : Added (taken_effects L k h (seen L v (values a))) c.args.effects.now c.take.new.effects = take.added (search rules) old new (omega (arith, free)) in
          added_next _ _ _ (there roomy old new room) _ (λ n s. planned_effects n v s) _ _ _ one (omega (arith, free, few)) (fetch.added (lower roomy old low new room));
    }
