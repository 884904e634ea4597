-- What the numbers and rows of a member say.
use Rattle.std.specs.Prelude.{◌<◌, ◌≤◌, cond, take, None, ◌==◌}
use Rattle.kept.specs.Keeping.{view_in}
use Rattle.kept.specs.declared.row.Kept.{Kept}
use Rattle.slot.specs.Slots.{first_of}
use Rattle.store.specs.Values as store
use Rattle.table.specs.Rows as table
use Rattle.lawful.specs.Lawful.{Lawful}
use Rattle.views.specs.declared.Viewable as viewable
use Rattle.hosted.specs.declared.member.Head.{Head}
use Rattle.hosted.specs.declared.member.Rows.{Rows}

abbrev pub by_view : viewable.Ghosts Kept
by_view = record { viewed = view_in }

abbrev pub Values : Type 0
Values = store.Values Kept by_view

abbrev pub values_in : Head → Rows → Values
values_in h r = record { floor = h.floor; current = h.current_view; cursor = h.cursor; replaying = h.replaying == 1; finalization = cond (h.finalization_count == 1) (first_of r.finalization) None; nullifications = take h.nullification_count r.nullifications; pending = take h.pending_count r.pending; certified = take h.certified_count r.certified; failed = take h.failed_count r.failed }

-- no number is too high for what it counts, and the views of the rows rise
pub record Rowed (h : Head) (r : Rows) : Type 0 where
  pub term : 0 < h.term_length
  pub replaying : h.replaying ≤ 1
  pub finalization : h.finalization_count ≤ 1
  pub nullifications : table.Resumable view_in h.nullification_count r.nullifications
  pub certified : table.Resumable view_in h.certified_count r.certified
  pub pending : table.Resumable store.mark_view h.pending_count r.pending
  pub failed : table.Resumable store.mark_view h.failed_count r.failed

-- what calls leave
pub record Sound (h : Head) (r : Rows) : Type 0 where
  pub rowed : Rowed h r
  pub lawful : Lawful h.term_length (values_in h r)
