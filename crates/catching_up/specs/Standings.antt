-- How far a member has come. Terms have L views.
use Rattle.std.specs.Prelude.{ℕ, zero, suc, ◌+◌, ◌-◌, cond}
use Rattle.catching_up.specs.declared.standing.Standing.{Standing}
use Rattle.peer_rounds.specs.Laws.{is_settled}
use Rattle.store.specs.Values.{Values}
use Rattle.views.specs.declared.Viewable as viewable

module _ {R : Type 0} {g : viewable.Ghosts R} (L : ℕ) (s : Values R g) where
  -- how many of n views from `low` on are not settled for nullifications
  unfoldable pub unsettled : ℕ → ℕ → ℕ
  unsettled low zero = 0
  unsettled low (suc n) = unsettled low n + cond (is_settled L s (low + n)) 0 1

  -- those between the floor and the current view
  abbrev pub bare_views : ℕ
  bare_views = unsettled (s.floor + 1) (s.current - s.floor - 1)

  abbrev pub standing_of : Standing
  standing_of = record { current = s.current; settled = s.current - unsettled 1 s.current; bare = bare_views }
