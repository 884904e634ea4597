-- What a store needs, and what a call leaves.
use Rattle.std.specs.Prelude.{◌≡◌, ℕ, ◌+◌, ◌^◌, ◌<◌, ◌≤◌, false, length as count}
use Rattle.views.specs.declared.Viewable as viewable
use Rattle.slot.specs.Slots.{places}
use Rattle.table.specs.declared.lent.Table.{Table}
use Rattle.table.specs.Rows.{holds}
use Rattle.table.specs.Tables.{entries, capacity}
use Rattle.terms.specs.Terms.{views}
use Rattle.store.specs.declared.store.Store.{Store}
use Rattle.effects.specs.declared.listed.Effects.{Effects}
use Rattle.effects.specs.Lists as list
use Rattle.store.specs.Values.{Values, values}

-- how many views a term has
abbrev pub length_of : {R : Type 0} {g : viewable.Ghosts R} → Store R g → ℕ
length_of s = views s.term_length

-- each table has 128 places or more, and there is one for a finalization
pub record Roomy {R : Type 0} {g : viewable.Ghosts R} (s : Store R g) : Type 0 where
  pub finalization : 0 < places s.finalization
  pub nullifications : 128 ≤ capacity s.nullifications
  pub pending : 128 ≤ capacity s.pending_notarizations
  pub certified : 128 ≤ capacity s.certified_notarizations
  pub failed : 128 ≤ capacity s.uncertifiable_notarizations

-- a table has a place for a row of this view, or holds one already
abbrev pub RoomFor : {R : Type 0} {g : viewable.Ghosts R} → ℕ → Table R g → Type 0
RoomFor {R} {g} v t = holds g.viewed v (entries t) ≡ false → count (entries t) < capacity t

-- the places of the tables stay, and so do term length and epoch
pub record Kept {R : Type 0} {g : viewable.Ghosts R} (before after : Store R g) : Type 0 where
  pub length : after.term_length ≡ before.term_length
  pub epoch : after.epoch ≡ before.epoch
  pub finalization : places after.finalization ≡ places before.finalization
  pub nullifications : capacity after.nullifications ≡ capacity before.nullifications
  pub pending : capacity after.pending_notarizations ≡ capacity before.pending_notarizations
  pub certified : capacity after.certified_notarizations ≡ capacity before.certified_notarizations
  pub failed : capacity after.uncertifiable_notarizations ≡ capacity before.uncertifiable_notarizations

-- views that planning can go on from
pub record Low {R : Type 0} {g : viewable.Ghosts R} (s : Values R g) : Type 0 where
  pub floor : s.floor ≤ 2 ^ 62
  pub current : s.current ≤ 2 ^ 62

-- a call leaves these values
pub record Turned {R : Type 0} {g : viewable.Ghosts R} (before after : Store R g) (s : Values R g) : Type 0 where
  pub is : values after ≡ s
  pub kept : Kept before after

-- a list has room for so many effects more
abbrev pub HasRoom : ℕ → Effects → Type 0
HasRoom n e = count (list.entries e) + n ≤ list.places e
