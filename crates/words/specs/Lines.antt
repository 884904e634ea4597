-- A line's comment and its words.
use Rattle.std.specs.Prelude.{ℕ, zero, suc, Bool, cond, not, List, length, take, drop, Ok, Err, Result, ◌==◌, nat_eq}
use Rattle.std.specs.List.{prefix_len}
use Rattle.std.specs.Str.{bytes_eq}
use Rattle.words.specs.declared.problem.Problem.{Problem}
use Rattle.words.specs.declared.problem.Problem.TheVariants.{ExtraWord}

-- how many bytes stand before the first `stop`
abbrev pub until : ℕ → List ℕ → ℕ
until stop bs = prefix_len (λ b. not (b == stop)) bs

-- what follows the spaces at the front
abbrev pub past_spaces : List ℕ → List ℕ
past_spaces bs = drop (prefix_len (λ b. nat_eq b 32) bs) bs

unfoldable pub first_word : List ℕ → List ℕ
first_word bs = take (until 32 (past_spaces bs)) (past_spaces bs)

unfoldable pub after_word : List ℕ → List ℕ
after_word bs = drop (until 32 (past_spaces bs)) (past_spaces bs)

-- what follows the first n words
unfoldable pub after_words : ℕ → List ℕ → List ℕ
after_words zero bs = bs
after_words (suc n) bs = after_words n (after_word bs)

-- the word at a place, counted from 0; it is empty where there are not so many
abbrev pub word_at : ℕ → List ℕ → List ℕ
word_at n bs = first_word (after_words n bs)

-- no word is left
unfoldable pub ended : List ℕ → Result (Unit {0}) Problem
ended bs = cond (length (word_at 0 bs) == 0) (Ok tt) (Err ExtraWord)

-- a word begins with a name
abbrev pub begins : List ℕ → List ℕ → Bool
begins name w = bytes_eq (take (length name) w) name
