-- Lines that are commands, and lines that are none.
use Rattle.std.specs.Prelude.{◌≡◌, ℕ, ◌+◌, ◌≤◌, min, Bool, true, false, not, ◌&&◌, List, length, drop, codes, nat_lt}
use Rattle.words.specs.Lines.{until, begins}

-- the line at the front is a command: it begins with the bytes 62 and 32
abbrev pub marked : List ℕ → Bool
marked bs = begins (codes "> ") bs

-- a line begins at this place, and it is no command
abbrev pub is_plain : List ℕ → ℕ → Bool
is_plain bs i = nat_lt i (length bs) && not (marked (drop i bs))

-- where the line that begins at this place ends, with its byte 10
abbrev pub line_end : List ℕ → ℕ → ℕ
line_end bs i = min (length bs) (i + until 10 (drop i bs) + 1)

-- up to this place stand so many lines, and none of them is a command
pub data Plain (bs : List ℕ) : ℕ → ℕ → Type 0 where
  no_line : Plain bs 0 0
  line_more : (i n : ℕ) → Plain bs i n → is_plain bs i ≡ true → Plain bs (line_end bs i) (n + 1)

-- and behind them stands a command, or nothing
pub record Passed (bs : List ℕ) (i n : ℕ) : Type 0 where
  pub plain : Plain bs i n
  pub within : i ≤ length bs
  pub over : is_plain bs i ≡ false
