-- What came of a line.
use Rattle.std.specs.Prelude.{Bool, true, false, Option, Some, None}
use Rattle.one_member.specs.declared.admitted.Admitted.{Admitted}
use Rattle.replies.specs.declared.turn.Turn.{Turn}
use Rattle.replies.specs.declared.turn.Turn.TheVariants.{Answered, NoCommand, Member}

abbrev pub commands : Turn → Bool
commands Answered = true
commands NoCommand = false
commands (Member a) = true

-- the member that a line makes, if it makes one
abbrev pub made_by : Turn → Option Admitted
made_by Answered = None
made_by NoCommand = None
made_by (Member a) = Some a
