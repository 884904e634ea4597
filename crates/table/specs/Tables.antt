-- What a table holds: its first rows. The places past them are free.
use Rattle.std.specs.Prelude.{ℕ, List, length, take}
use Rattle.views.specs.declared.Viewable as viewable
use Rattle.table.specs.declared.lent.Table.{Table}

module _ {R : Type 0} {g : viewable.Ghosts R} where
  abbrev pub entries : Table R g → List R
  entries t = take t.len t.rows.now

  abbrev pub capacity : Table R g → ℕ
  capacity t = length t.rows.now
