-- What the steps of evidence keep, whatever its kind.
use Rattle.std.proofs.Common.{ℕ, ◌^◌, ◌≤◌, length, rules}
use Rattle.record.specs.declared.kind.Kind.{Kind}
use Rattle.record.specs.declared.kind.Kind.TheVariants.{Notarization, Nullification, Finalization}
use Rattle.views.specs.declared.Viewable as viewable
use Rattle.store.specs.Values.{Values, with_current}
use Rattle.store.specs.Ready.{Low}
use Rattle.store.specs.Room.{Room}
use Rattle.store.specs.Steps.{nullified, nullified_effects, notarized, notarized_effects, finalized_at, pruned, raised, raised_effects, finalization_taken, finalization_effects, taken_effects, before_planning}

module _ {R : Type 0} {g : viewable.Ghosts R} (L : ℕ) where
  pub room_seen : (k : Kind) (v n : ℕ) (s : Values R g) → Room L k v s → Room L k v (with_current n s)
  room_seen Nullification v n s room = room
  room_seen Notarization v n s room = room
  room_seen Finalization v n s room = room

  pub taken_few : (k : Kind) (h : R) (s : Values R g) → length (taken_effects L k h s) ≤ 2
  unfolding nullified_effects notarized_effects finalization_effects raised_effects
  taken_few Nullification h s = search rules
  taken_few Notarization h s = search rules
  taken_few Finalization h s = search rules

  pub low_before : (k : Kind) (h : R) (s : Values R g) → Low s → (g.viewed h) ≤ 2 ^ 62 → Low (before_planning L k h s)
  unfolding before_planning nullified notarized finalization_taken raised pruned finalized_at
  low_before Nullification h s low new = search rules
  low_before Notarization h s low new = search rules
  low_before Finalization h s low new = search rules

  pub low_passed : (v : ℕ) (s : Values R g) → Low s → v ≤ 2 ^ 62 → Low (raised L v s)
  unfolding raised
  low_passed v s low new = search rules
