-- The words of a member's making.
use Rattle.std.specs.Prelude.{ℕ, cond, List, length, Ok, Err, codes, Result, ◌==◌}
use Rattle.std.specs.Str.{bytes_eq}
use Rattle.orders.specs.declared.setup.BoardKind.{BoardKind}
use Rattle.orders.specs.declared.setup.BoardKind.TheVariants as kind
use Rattle.orders.specs.declared.setup.Setup.{Setup}
use Rattle.words.specs.Lines.{word_at, after_words, ended}
use Rattle.words.specs.Numerals.{number_of, short_of}
use Rattle.words.specs.Problems.{bind}
use Rattle.words.specs.declared.problem.Problem.{Problem}
use Rattle.words.specs.declared.problem.Problem.TheVariants.{ExtraWord}

-- `[rows|list]`
unfoldable pub board_of : List ℕ → Result BoardKind Problem
board_of bs =
    cond (length (word_at 0 bs) == 0) (Ok kind.Rows)
    (cond (bytes_eq (word_at 0 bs) (codes "rows")) (bind (ended (after_words 1 bs)) (λ _. Ok kind.Rows))
    (cond (bytes_eq (word_at 0 bs) (codes "list")) (bind (ended (after_words 1 bs)) (λ _. Ok kind.List)) (Err ExtraWord)))

-- `L EPOCH N Q [rows|list]`
unfoldable pub setup_of : List ℕ → Result Setup Problem
setup_of bs =
    bind (short_of (word_at 0 bs)) (λ l.
    bind (number_of (word_at 1 bs)) (λ e.
    bind (number_of (word_at 2 bs)) (λ n.
    bind (number_of (word_at 3 bs)) (λ q.
    bind (board_of (after_words 4 bs)) (λ b. Ok (record { term_length = l; epoch = e; seats = n; quorum = q; board = b }))))))
