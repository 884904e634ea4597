-- Numbers as bytes, the highest byte first.
use Rattle.std.specs.Prelude.{ℕ, zero, suc, ◌/◌, ◌%◌, Bool, List, [], ◌∷◌, ◌++◌, take, drop, ◌==◌}
use Rattle.std.specs.Int.Digits as digits
use Rattle.std.specs.List.{list_all}

-- the n bytes from the place `at` on
abbrev pub part : ℕ → ℕ → List ℕ → List ℕ
part at n bs = take n (drop at bs)

-- the number that bytes write
abbrev pub number : List ℕ → ℕ
number bs = digits.number_from_digits 256 bs

-- the last k bytes of a number
unfoldable pub bytes_of : ℕ → ℕ → List ℕ
bytes_of zero n = []
bytes_of (suc k) n = bytes_of k (n / 256) ++ (n % 256 ∷ [])

-- whether every byte is 0
abbrev pub zeros : List ℕ → Bool
zeros = list_all (λ b. b == 0)
