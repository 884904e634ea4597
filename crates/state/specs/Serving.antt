-- Which record is served for a view.
use Rattle.std.specs.Prelude.{ℕ, cond, Some, None, Option, nat_le}
use Rattle.cover.specs.Covers.{cover}
use Rattle.views.specs.declared.Viewable as viewable
use Rattle.store.specs.Values.{Values, finalized}
use Rattle.table.specs.Rows.{lookup}

-- the first of two, or else the second
abbrev pub or_else : {X : Type 0} → Option X → Option X → Option X
or_else None y = y
or_else (Some x) y = Some x

module _ {R : Type 0} {g : viewable.Ghosts R} (L : ℕ) where
  -- the kept finalization at or above the view
  abbrev pub finalization_for : ℕ → Values R g → Option R
  finalization_for v s = cond (nat_le v (finalized s)) s.finalization None

  -- what was certified at the floor, at or above the view
  abbrev pub floor_for : ℕ → Values R g → Option R
  floor_for v s = cond (nat_le v s.floor) (lookup g.viewed s.floor s.certified) None

  -- the first of these that there is
  unfoldable pub served : ℕ → Values R g → Option R
  served v s = or_else (finalization_for v s) (or_else (lookup g.viewed v s.certified) (or_else (cover g.viewed L v s.nullifications) (floor_for v s)))

-- a place for a record, after a record was served into it or none was
abbrev pub copied : {R : Type 0} → Option R → R → R
copied None before = before
copied (Some h) before = h
