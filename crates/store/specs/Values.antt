-- What a member has recorded, as values.
use Rattle.std.specs.Prelude.{ℕ, ◌+◌, Bool, List, Some, None, Option}
use Rattle.cover.specs.Covers.{covered}
use Rattle.planning.specs.Gaps.{plan_start, gaps}
use Rattle.slot.specs.Slots.{held}
use Rattle.views.specs.declared.Viewable as viewable
use Rattle.table.specs.declared.mark.Mark.{Mark}
use Rattle.table.specs.Rows.{holds}
use Rattle.table.specs.Tables.{entries}
use Rattle.store.specs.declared.store.Store.{Store}

pub record Values (R : Type 0) (g : viewable.Ghosts R) : Type 0 where
  pub floor : ℕ
  pub current : ℕ
  pub cursor : ℕ
  pub replaying : Bool
  pub finalization : Option R
  pub nullifications : List R
  pub pending : List Mark
  pub certified : List R
  pub failed : List Mark

abbrev pub mark : ℕ → Mark
mark v = record { view = v }

abbrev pub mark_view : Mark → ℕ
mark_view m = m.view

-- the view of a kept finalization, 0 if there is none
abbrev pub view_of : {R : Type 0} → (R → ℕ) → Option R → ℕ
view_of at None = 0
view_of at (Some h) = at h

module _ {R : Type 0} {g : viewable.Ghosts R} where
  abbrev pub values : Store R g → Values R g
  values s = record { floor = s.floor; current = s.current_view; cursor = s.cursor; replaying = s.replaying; finalization = held s.finalization; nullifications = entries s.nullifications; pending = entries s.pending_notarizations; certified = entries s.certified_notarizations; failed = entries s.uncertifiable_notarizations }

  -- the finalized view
  abbrev pub finalized : Values R g → ℕ
  finalized s = view_of g.viewed s.finalization

  -- the values with one of them changed
  abbrev pub with_floor : ℕ → Values R g → Values R g
  with_floor v s = record { floor = v; current = s.current; cursor = s.cursor; replaying = s.replaying; finalization = s.finalization; nullifications = s.nullifications; pending = s.pending; certified = s.certified; failed = s.failed }

  abbrev pub with_current : ℕ → Values R g → Values R g
  with_current v s = record { floor = s.floor; current = v; cursor = s.cursor; replaying = s.replaying; finalization = s.finalization; nullifications = s.nullifications; pending = s.pending; certified = s.certified; failed = s.failed }

  abbrev pub with_cursor : ℕ → Values R g → Values R g
  with_cursor v s = record { floor = s.floor; current = s.current; cursor = v; replaying = s.replaying; finalization = s.finalization; nullifications = s.nullifications; pending = s.pending; certified = s.certified; failed = s.failed }

  abbrev pub with_replaying : Bool → Values R g → Values R g
  with_replaying b s = record { floor = s.floor; current = s.current; cursor = s.cursor; replaying = b; finalization = s.finalization; nullifications = s.nullifications; pending = s.pending; certified = s.certified; failed = s.failed }

  abbrev pub with_finalization : Option R → Values R g → Values R g
  with_finalization h s = record { floor = s.floor; current = s.current; cursor = s.cursor; replaying = s.replaying; finalization = h; nullifications = s.nullifications; pending = s.pending; certified = s.certified; failed = s.failed }

  abbrev pub with_nullifications : List R → Values R g → Values R g
  with_nullifications rs s = record { floor = s.floor; current = s.current; cursor = s.cursor; replaying = s.replaying; finalization = s.finalization; nullifications = rs; pending = s.pending; certified = s.certified; failed = s.failed }

  abbrev pub with_pending : List Mark → Values R g → Values R g
  with_pending rs s = record { floor = s.floor; current = s.current; cursor = s.cursor; replaying = s.replaying; finalization = s.finalization; nullifications = s.nullifications; pending = rs; certified = s.certified; failed = s.failed }

  abbrev pub with_certified : List R → Values R g → Values R g
  with_certified rs s = record { floor = s.floor; current = s.current; cursor = s.cursor; replaying = s.replaying; finalization = s.finalization; nullifications = s.nullifications; pending = s.pending; certified = rs; failed = s.failed }

  abbrev pub with_failed : List Mark → Values R g → Values R g
  with_failed rs s = record { floor = s.floor; current = s.current; cursor = s.cursor; replaying = s.replaying; finalization = s.finalization; nullifications = s.nullifications; pending = s.pending; certified = s.certified; failed = rs }

  -- what is found of a view
  abbrev pub is_nullified : ℕ → Values R g → Bool
  is_nullified v s = holds g.viewed v s.nullifications

  abbrev pub is_pending : ℕ → Values R g → Bool
  is_pending v s = holds mark_view v s.pending

  abbrev pub is_certified : ℕ → Values R g → Bool
  is_certified v s = holds g.viewed v s.certified

  abbrev pub has_failed : ℕ → Values R g → Bool
  has_failed v s = holds mark_view v s.failed

  module _ (L : ℕ) where
    -- whether a kept nullification covers a view
    abbrev pub is_covered : Values R g → ℕ → Bool
    is_covered s v = covered g.viewed L v s.nullifications

    -- the gaps above the floor
    abbrev pub gaps_of : Values R g → List ℕ
    gaps_of s = gaps L (is_covered s) (s.floor + 1) s.current

    -- those among them that planning comes to next
    abbrev pub unplanned : Values R g → List ℕ
    unplanned s = gaps L (is_covered s) (plan_start s.cursor s.floor) s.current
