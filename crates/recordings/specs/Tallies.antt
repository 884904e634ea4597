-- How many commands were compared, and in which words that is told.
use Rattle.std.specs.Prelude.{ℕ, ◌+◌, ◌-◌, ◌^◌, min, Bool, cond, ◌&&◌, List, [], ◌∷◌, ◌++◌, take, codes, decimal, ◌==◌, nat_lt}
use Rattle.recordings.specs.declared.tally.Tally.{Tally}
use Rattle.words.specs.Lines.{until}

-- one more, up to the largest number
abbrev pub one_more : ℕ → ℕ
one_more n = min (n + 1) (2 ^ 64 - 1)

abbrev pub counted : Bool → Bool → Tally → Tally
counted same command t = record { commands = one_more t.commands; different = cond same t.different (one_more t.different); clean = t.clean && command }

abbrev pub agreed : Tally → Bool
agreed t = nat_lt 0 t.commands && (t.different == 0) && t.clean

-- `commands C different D`
abbrev pub tally_text : Tally → List ℕ
tally_text t = codes "commands " ++ (decimal t.commands ++ (codes " different " ++ decimal t.different))

-- `line N: here ANSWER`, with the first line of the answer
abbrev pub difference_text : ℕ → List ℕ → List ℕ
difference_text n answer = codes "line " ++ (decimal n ++ (codes ": here " ++ (take (until 10 answer) answer ++ 10 ∷ [])))

-- what is told of an answer
abbrev pub compared_text : Bool → ℕ → List ℕ → List ℕ
compared_text same n answer = cond same [] (difference_text n answer)
