-- The words of an open ask.
use Rattle.std.specs.Prelude.{ℕ, List, ◌++◌, codes, decimal, Some, None, Option}
use Rattle.effects.specs.Shown.{kind_name}
use Rattle.board.specs.declared.ask.Ask.{Ask}
use Rattle.board.specs.declared.ask.Ask.TheVariants.{Background, Ancestry}
use Rattle.board.specs.declared.open.Open.{Open}

abbrev pub ask_words : ℕ → Ask → Option ℕ → List ℕ
ask_words v Background t = decimal v ++ codes " background"
ask_words v (Ancestry k) None = decimal v ++ (codes " " ++ kind_name k)
ask_words v (Ancestry k) (Some s) = decimal v ++ (codes " " ++ (kind_name k ++ (codes " " ++ decimal s)))

abbrev pub open_text : Open → List ℕ
open_text o = ask_words o.view o.ask o.target
