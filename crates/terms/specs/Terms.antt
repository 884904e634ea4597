-- Terms: L views each, but view 0, which is a term of its own. The numbers do not wrap.
use Rattle.std.specs.Prelude.{ℕ, ◌+◌, ◌-◌, ◌*◌, ◌/◌, Bool, cond, ◌&&◌, ◌==◌, nat_le}
use Rattle.terms.specs.declared.TermLength.{TermLength}

-- how many views a term has
abbrev pub views : TermLength → ℕ
views l = l.length

-- the first view of the term of v
unfoldable pub start : ℕ → ℕ → ℕ
start L v = cond (v == 0) 0 ((v - 1) / L * L + 1)

-- the last view of the term of v
unfoldable pub end : ℕ → ℕ → ℕ
end L v = cond (v == 0) 0 (start L v + (L - 1))

-- the first view of the term after that of v
unfoldable pub next : ℕ → ℕ → ℕ
next L v = end L v + 1

unfoldable pub is_start : ℕ → ℕ → Bool
is_start L v = v == start L v

unfoldable pub same_term : ℕ → ℕ → ℕ → Bool
same_term L u v = start L u == start L v

-- a nullification at u covers v
unfoldable pub covering : ℕ → ℕ → ℕ → Bool
covering L u v = nat_le u v && same_term L u v
