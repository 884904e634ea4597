-- What a state leaves in the numbers and rows of a member. Places past the rows stay.
use Rattle.std.specs.Prelude.{cond, ◌∷◌, [], ◌++◌, List, length, drop, is_some, Some, None, Option}
use Rattle.hosted.specs.declared.member.Head.{Head}
use Rattle.hosted.specs.declared.member.Rows.{Rows}
use Rattle.hosted.specs.Members.{Values}

abbrev pub head_of : Values → Head → Head
head_of s h = record { term_length = h.term_length; seats = h.seats; quorum = h.quorum; replaying = cond s.replaying 1 0; epoch = h.epoch; current_view = s.current; floor = s.floor; cursor = s.cursor; finalization_count = cond (is_some s.finalization) 1 0; nullification_count = length s.nullifications; pending_count = length s.pending; certified_count = length s.certified; failed_count = length s.failed; ask_count = h.ask_count }

abbrev pub over : {X : Type 0} → List X → List X → List X
over rs places = rs ++ drop (length rs) places

abbrev pub if_some : {X : Type 0} → Option X → List X → List X
if_some None before = before
if_some (Some x) before = x ∷ []

abbrev pub rows_of : Values → Rows → Rows
rows_of s r = record { finalization = if_some s.finalization r.finalization; nullifications = over s.nullifications r.nullifications; certified = over s.certified r.certified; pending = over s.pending r.pending; failed = over s.failed r.failed }
