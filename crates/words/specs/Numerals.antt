-- Decimal numbers without sign or leading zeros.
use Rattle.std.specs.Prelude.{ℕ, ◌+◌, ◌-◌, ◌*◌, ◌^◌, Bool, cond, not, ◌&&◌, List, [], ◌∷◌, length, Ok, Err, Result, ◌==◌, nat_lt, slice_index}
use Rattle.words.specs.Classes.{decimal_digit, every}
use Rattle.words.specs.declared.problem.Problem.{Problem}
use Rattle.words.specs.declared.problem.Problem.TheVariants.{MissingWord, NotANumber, OutOfRange}

-- the number that digits write after those of n
abbrev pub read_on : ℕ → List ℕ → ℕ
read_on n [] = n
read_on n (c ∷ cs) = read_on (n * 10 + (c - 48)) cs

-- digits alone, and a zero in front only if nothing follows it
abbrev pub plainly : List ℕ → Bool
plainly w = not (length w == 0) && (every decimal_digit w && not (nat_lt 1 (length w) && slice_index w 0 == 48))

unfoldable pub decimal_of : List ℕ → Result ℕ Problem
decimal_of w = cond (plainly w) (cond (nat_lt (read_on 0 w) (2 ^ 64)) (Ok (read_on 0 w)) (Err OutOfRange)) (Err NotANumber)

-- a number that stands as a word of a line
unfoldable pub number_of : List ℕ → Result ℕ Problem
number_of w = cond (length w == 0) (Err MissingWord) (decimal_of w)

-- and is below 2^32
abbrev pub short : Result ℕ Problem → Result ℕ Problem
short (Ok n) = cond (nat_lt n (2 ^ 32)) (Ok n) (Err OutOfRange)
short (Err p) = Err p

abbrev pub short_of : List ℕ → Result ℕ Problem
short_of w = short (number_of w)
