-- The commands by their names.
use Rattle.std.specs.Prelude.{ℕ, cond, List, length, codes, ◌==◌}
use Rattle.std.specs.Str.{bytes_eq}
use Rattle.script.specs.declared.command.Command.{Command}
use Rattle.script.specs.declared.command.Command.TheVariants.{Nothing, Term, Covers, Read, Member, Drain, Order}

abbrev pub command_of : List ℕ → Command
command_of w = cond (length w == 0) Nothing (cond (bytes_eq w (codes "term")) Term (cond (bytes_eq w (codes "covers")) Covers (cond (bytes_eq w (codes "read")) Read (cond (bytes_eq w (codes "member")) Member (cond (bytes_eq w (codes "drain")) Drain Order)))))
