-- What the memory of a member says.
use Rattle.std.specs.Prelude.{◌≡◌, ◌≤◌, true, List, [], take, map, length, is_some, Some, None, Option}
use Rattle.asked.specs.Lists.{asks_in}
use Rattle.asked.specs.Rows.{row_of, over}
use Rattle.board.specs.declared.open.Open.{Open}
use Rattle.hosted.specs.Keeping.{head_of, rows_of}
use Rattle.hosted.specs.Members as hosted
use Rattle.hosted.specs.declared.member.Head.{Head}
use Rattle.verifier.specs.Seats.{allowed}
use Rattle.driven.specs.declared.member.Member.{Member}

abbrev pub or_none : Option (List Open) → List Open
or_none None = []
or_none (Some os) = os

abbrev pub values_of : Member → hosted.Values
values_of m = hosted.values_in m.head m.rows

-- the open asks
abbrev pub asks_of : Member → List Open
asks_of m = or_none (asks_in (take m.head.ask_count m.asks))

-- what calls leave
pub record Sound (m : Member) : Type 0 where
  pub state : hosted.Sound m.head m.rows
  pub seats : allowed m.head.seats m.head.quorum ≡ true
  pub count : m.head.ask_count ≤ 320
  pub asks : is_some (asks_in (take m.head.ask_count m.asks)) ≡ true

abbrev pub with_count : List Open → Head → Head
with_count os h = record { term_length = h.term_length; seats = h.seats; quorum = h.quorum; replaying = h.replaying; epoch = h.epoch; current_view = h.current_view; floor = h.floor; cursor = h.cursor; finalization_count = h.finalization_count; nullification_count = h.nullification_count; pending_count = h.pending_count; certified_count = h.certified_count; failed_count = h.failed_count; ask_count = length os }

-- a member with these values and these open asks. Places past rows and asks stay
abbrev pub kept_as : hosted.Values → List Open → Member → Member
kept_as s os m = record { head = with_count os (head_of s m.head); rows = rows_of s m.rows; asks = over (map row_of os) m.asks }
