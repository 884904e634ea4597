-- The asks that a word lists.
use Rattle.std.specs.Prelude.{ℕ, zero, suc, ◌+◌, cond, List, [], ◌∷◌, length, take, drop, Ok, Err, codes, Result, ◌==◌, nat_le}
use Rattle.std.specs.Str.{bytes_eq}
use Rattle.board.specs.declared.ask.Ask.{Ask}
use Rattle.board.specs.declared.ask.Ask.TheVariants.{Background, Ancestry}
use Rattle.effects.specs.declared.effect.Kind.TheVariants.{Nullification, Notarization}
use Rattle.words.specs.Lines.{until}
use Rattle.words.specs.Problems.{bind}
use Rattle.words.specs.declared.problem.Problem.{Problem}
use Rattle.words.specs.declared.problem.Problem.TheVariants.{MissingWord, NotAsks}

abbrev pub ask_named : List ℕ → Result Ask Problem
ask_named w = cond (bytes_eq w (codes "background")) (Ok Background) (cond (bytes_eq w (codes "nullification")) (Ok (Ancestry Nullification)) (cond (bytes_eq w (codes "notarization")) (Ok (Ancestry Notarization)) (Err NotAsks)))

-- one, and those behind the comma, byte 44, that follows it; n is more than there can be
unfoldable pub asks_in : ℕ → List ℕ → Result (List Ask) Problem
asks_in zero bs = Ok []
asks_in (suc n) bs = bind (ask_named (take (until 44 bs) bs)) (λ a. cond (nat_le (length bs) (until 44 bs)) (Ok (a ∷ [])) (bind (asks_in n (drop (until 44 bs + 1) bs)) (λ qs. Ok (a ∷ qs))))

-- a lone hyphen, byte 45, lists none
abbrev pub asks_of : List ℕ → Result (List Ask) Problem
asks_of w = cond (length w == 0) (Err MissingWord) (cond (bytes_eq w (45 ∷ [])) (Ok []) (asks_in (length w + 1) w))
