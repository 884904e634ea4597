-- Bytes as pairs of lower-case hex digits.
use Rattle.std.specs.Prelude.{ℕ, ◌+◌, ◌-◌, ◌*◌, ◌%◌, cond, List, [], ◌∷◌, length, Ok, Err, Result, ◌==◌, nat_lt}
use Rattle.std.specs.Str.{bytes_eq}
use Rattle.words.specs.Classes.{hex_digit, every}
use Rattle.words.specs.declared.problem.Problem.{Problem}
use Rattle.words.specs.declared.problem.Problem.TheVariants.{MissingWord, NotHex, OddHex}

-- the value of a hex digit
abbrev pub nibble_of : ℕ → ℕ
nibble_of c = cond (nat_lt c 97) ((c - 48) % 16) ((c - 87) % 16)

abbrev pub decoded : List ℕ → List ℕ
decoded [] = []
decoded (a ∷ []) = []
decoded (a ∷ b ∷ cs) = (nibble_of a * 16 + nibble_of b) ∷ decoded cs

-- a lone hyphen, byte 45, writes no bytes
unfoldable pub hex_of : List ℕ → Result (List ℕ) Problem
hex_of w = cond (length w == 0) (Err MissingWord) (cond (bytes_eq w (45 ∷ [])) (Ok []) (cond (every hex_digit w) (cond (length w % 2 == 1) (Err OddHex) (Ok (decoded w))) (Err NotHex)))
