-- Which asks are settled.
use Rattle.std.specs.Prelude.{ℕ, Bool, ◌&&◌, ◌||◌, nat_le}
use Rattle.effects.specs.declared.effect.Kind.{Kind}
use Rattle.effects.specs.declared.effect.Kind.TheVariants.{Nullification, Notarization}
use Rattle.views.specs.declared.Viewable as viewable
use Rattle.store.specs.Values.{Values, finalized, is_pending, is_certified, has_failed, is_covered}

module _ {R : Type 0} {g : viewable.Ghosts R} (L : ℕ) where
  -- by what was recorded above the finalized view
  abbrev pub answered : Kind → ℕ → Values R g → Bool
  answered Nullification v s = is_covered L s v
  answered Notarization v s = is_pending v s || (is_certified v s || has_failed v s)

  -- nothing is left to ask for: the view is finalized, or what is asked for was recorded
  unfoldable pub settled : Kind → ℕ → Values R g → Bool
  settled k v s = nat_le v (finalized s) || answered k v s

  -- for both kinds
  abbrev pub key_settled : ℕ → Values R g → Bool
  key_settled v s = settled Nullification v s && settled Notarization v s
