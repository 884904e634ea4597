use Rattle.std.proofs.Common.{◌^◌, ◌≤◌, true, length, arith, rules}
use Rattle.effects.specs.Lists.{Added}
use Rattle.store.specs.Values.{values}
use Rattle.store.specs.Ready.{length_of, Low, Roomy, Turned}
use Rattle.store.specs.Room.{VerdictRoom}
use Rattle.store.specs.Steps.{passing, certified_at, raised, raised_effects, planned, planned_effects}
use Rattle.store.proofs.Turns.{turned_next, low_next, added_next}
use Rattle.store.proofs.Evidence.{low_passed}
use Rattle.store.proofs.store.Store.pass.Goals as goal

pub returns : goal.returns
unfolding passing certified_at raised_effects
returns g c =
    let a = c.args.self.now in
    let L = length_of a in
    let h = c.args.held in
    let v = g.R.Viewable.viewed h in
    let raise = rw c.view-view.ensures at c.raise.ensures in
    let fetch = rw c.view-view.ensures at c.fetch_missing.ensures in
    let kept : Roomy a → VerdictRoom L true v (values a) → Turned a c.keep_certified.new.self (certified_at L h (values a)) = λ roomy room. search rules in
    let there : Roomy a → v ≤ 2 ^ 62 → VerdictRoom L true v (values a) → Turned a c.raise.new.self (passing L h (values a)) = λ roomy new room. turned_next _ _ _ (kept roomy room) _ (λ n s. raised n v s) (raise.turned new) in
    let lower : Roomy a → Low (values a) → v ≤ 2 ^ 62 → VerdictRoom L true v (values a) → Low (values c.raise.new.self) = λ roomy low new room. low_next _ _ _ (there roomy new room) (low_passed L v _ (record { floor = low.floor; current = low.current }) new) in
    record {
      turned = λ roomy low new room. turned_next _ _ _ (there roomy new room) _ (λ n s. planned n s) (fetch.turned (lower roomy low new room));
      added = λ roomy low new room free.
          let one : Added (raised_effects L v (values a)) c.args.effects.now c.raise.new.effects = search rules in
          let few : length (raised_effects L v (values a)) ≤ 1 = search rules in
          added_next _ _ _ (there roomy new room) _ (λ n s. planned_effects n v s) _ _ _ one (omega (arith, free, few)) (fetch.added (lower roomy low new room));
    }
