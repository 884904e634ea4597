-- Which proofs name a quorum of seats.
use Rattle.std.specs.Prelude.{ℕ, ◌^◌, Bool, ◌&&◌, List, take, count_ones, nat_le, nat_lt}
use Rattle.record.specs.Certificates.{proof_in}
use Rattle.record.specs.Numbers.{number, part, zeros}
use Rattle.record.specs.declared.certificate.Certificate.{Certificate}

-- from 1 to all of at most 64 seats
abbrev pub allowed : ℕ → ℕ → Bool
allowed n q = nat_le 1 q && (nat_le q n && nat_le n 64)

-- the first eight bytes, as a mask, have at least q ones and none at bit n or above; bytes 8 to 31 are zero
abbrev pub names_quorum : ℕ → ℕ → List ℕ → Bool
names_quorum n q p = nat_le q (count_ones (number (take 8 p))) && (nat_lt (number (take 8 p)) (2 ^ n) && zeros (part 8 24 p))

abbrev pub seats_accept : ℕ → ℕ → Certificate → Bool
seats_accept n q c = names_quorum n q (proof_in c).0
