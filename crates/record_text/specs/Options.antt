-- The words of a record's text.
use Rattle.std.specs.Prelude.{ℕ, cond, List, length, drop, Some, None, Ok, Err, codes, Option, Result, ◌==◌}
use Rattle.std.specs.Str.{bytes_eq}
use Rattle.record.specs.declared.kind.Kind.{Kind}
use Rattle.record.specs.declared.kind.Kind.TheVariants.{Notarization, Nullification, Finalization}
use Rattle.record_text.specs.declared.options.Options.{Options}
use Rattle.words.specs.Lines.{word_at, after_words, ended, begins}
use Rattle.words.specs.Numerals.{decimal_of}
use Rattle.words.specs.Problems.{bind}
use Rattle.words.specs.declared.problem.Problem.{Problem}
use Rattle.words.specs.declared.problem.Problem.TheVariants.{MissingWord, NotARecord}

abbrev pub kind_named : List ℕ → Result Kind Problem
kind_named w = cond (length w == 0) (Err MissingWord) (cond (bytes_eq w (codes "notarization")) (Ok Notarization) (cond (bytes_eq w (codes "nullification")) (Ok Nullification) (cond (bytes_eq w (codes "finalization")) (Ok Finalization) (Err NotARecord))))

-- the number after a name, if the word begins with it
unfoldable pub option_of : List ℕ → List ℕ → Result (Option ℕ) Problem
option_of name w = cond (begins name w) (bind (decimal_of (drop (length name) w)) (λ n. Ok (Some n))) (Ok None)

-- what follows an option's word, if it was there
abbrev pub past : Option ℕ → List ℕ → List ℕ
past None bs = bs
past (Some n) bs = after_words 1 bs

unfoldable pub options_of : List ℕ → Result Options Problem
options_of bs =
    bind (option_of (codes "epoch=") (word_at 0 bs)) (λ e.
    bind (option_of (codes "parent=") (word_at 0 (past e bs))) (λ p.
    bind (option_of (codes "seats=") (word_at 0 (past p (past e bs)))) (λ s.
    bind (ended (past s (past p (past e bs)))) (λ _. Ok (record { epoch = e; parent = p; seats = s })))))
