-- The words of a mistake.
use Rattle.std.specs.Prelude.{ℕ, List, ◌++◌, codes, decimal}
use Rattle.script.specs.declared.mistake.Mistake.{Mistake}
use Rattle.words.specs.Problems.{text_of}

abbrev pub mistake_text : Mistake → List ℕ
mistake_text m = codes "line " ++ (decimal m.line ++ (codes ": error: " ++ text_of m.problem))
