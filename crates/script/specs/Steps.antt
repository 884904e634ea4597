-- The steps over a script's lines.
use Rattle.std.specs.Prelude.{◌≡◌, ℕ, ◌+◌, ◌<◌, List, length, take, drop, Option, MatchOption}
use Rattle.std.specs.Borrow.{Bor}
use Rattle.script.specs.declared.numbered.Numbered.{Numbered}
use Rattle.words.specs.Lines.{until}

-- the next line by its number, if one is left, and the lines behind it
abbrev pub Counted : Numbered → Option (ℕ × Bor (List ℕ)) → Numbered → Type 0
Counted s r t =
    MatchOption r (length s.rest.now ≡ 0) (λ p. (p.0 ≡ s.number + 1) × (p.1.now ≡ take (until 10 s.rest.now) s.rest.now))
    × (t.rest.now ≡ drop (until 10 s.rest.now + 1) s.rest.now)
    × MatchOption r (length t.rest.now ≡ 0) (λ _. length t.rest.now < length s.rest.now)
    × MatchOption r (t.number ≡ s.number) (λ _. t.number ≡ s.number + 1)
