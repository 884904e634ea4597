-- Classes of bytes.
use Rattle.std.specs.Prelude.{ℕ, Bool, ◌&&◌, ◌||◌, List, length, ◌==◌, nat_le}
use Rattle.std.specs.List.{prefix_len}

abbrev pub decimal_digit : ℕ → Bool
decimal_digit b = nat_le 48 b && nat_le b 57

abbrev pub hex_digit : ℕ → Bool
hex_digit b = (nat_le 48 b && nat_le b 57) || (nat_le 97 b && nat_le b 102)

-- whether every byte is in a class: the run at the front is the whole
abbrev pub every : (ℕ → Bool) → List ℕ → Bool
every p bs = prefix_len p bs == length bs
