-- The facts of a state, from what is known of its store, and back.
use Rattle.std.proofs.Common.{◌≡◌, ℕ, ◌^◌, ◌≤◌, true, false, [], length, is_some, sym, refl, ap, subst, arith, rules}
use Rattle.slot.specs.Slots.{places}
use Rattle.table.specs.Tables.{entries}
use Rattle.table.proofs.Laws.{nothing_found}
use Rattle.terms.specs.Terms.{views}
use Rattle.std.proofs.lemmas.Bool.{true≢false, both_ways}
use Rattle.views.specs.declared.Viewable as viewable
use Rattle.store.specs.declared.store.Store.{Store}
use Rattle.store.specs.Fresh.{fresh}
use Rattle.effects.specs.declared.listed.Effects.{Effects}
use Rattle.effects.specs.Lists as list
use Rattle.store.specs.Ready.{length_of, Roomy, Low, Turned, HasRoom}
use Rattle.store.specs.Values.{Values, values, mark_view, finalized}
use Rattle.state.specs.declared.state.State.{State}
use Rattle.lawful.specs.Lawful.{Lawful}
use Rattle.state.specs.States.{held, term}
use Rattle.state.proofs.Sounds.{Rises as Rise}

module _ {R : Type 0} {g : viewable.Ghosts R} (s : State R g) where
  pub rises_of : Rise (held s)
  rises_of = search rules

  pub low_of : Low (held s)
  low_of = record { floor = s.lawful.sound.floor_low; current = s.lawful.sound.current_low }

  pub finalized_low : finalized (held s) ≤ 2 ^ 62
  finalized_low = omega (arith, s.lawful.sound.floor_finalized, s.lawful.sound.floor_low)

  module _ (b : Store R g) (v : Values R g) (p : Turned s.store b v) where
    -- a turn of its store leaves the places
    pub roomy_after : s.fit ≡ true → Roomy b
    roomy_after t = let r = s.roomy t in search rules

    -- and what holds of the values that it leaves
    pub lawful_after : Lawful (term s) v → Lawful (length_of b) (values b)
    lawful_after ok = subst (λ n. Lawful n (values b)) (sym (ap views p.kept.length)) (subst (Lawful (term s)) (sym p.is) ok)

-- a list that was cleared has room for 256 effects
pub cleared_room : (before cleared : Effects) (n : ℕ) → list.entries cleared ≡ [] → cleared.list.now ≡ before.list.now → n ≤ 256 → 256 ≤ list.places before → HasRoom n cleared
cleared_room before cleared n none same few room = omega (arith, few, room, ap length none, ap length same)

pub fresh_lawful : {R : Type 0} {g : viewable.Ghosts R} (L : ℕ) → Lawful L (fresh {R = R} {g = g})
unfolding fresh
fresh_lawful {g = g} L = record {
  sound = record {
    nullifications_few = omega arith;
    pending_few = omega arith;
    certified_few = omega arith;
    failed_few = omega arith;
    floor_finalized = omega arith;
    floor_low = omega arith;
    current_low = omega arith;
    nullifications_open = λ u t. absurd (both_ways _ (ap is_some (nothing_found g.viewed u)) t);
    pending_above = λ u t. absurd (both_ways _ (ap is_some (nothing_found mark_view u)) t);
    certified_above = λ u t. absurd (both_ways _ (ap is_some (nothing_found g.viewed u)) t);
    failed_above = λ u t. absurd (both_ways _ (ap is_some (nothing_found mark_view u)) t);
  };
  planned = record { cursor_first = λ _. refl; cursor_lands = λ f. absurd (true≢false f); gaps_few = λ f. absurd (true≢false f) };
}
