-- What a line answers.
use Rattle.std.specs.Prelude.{ℕ, List, take, Ok, Result}
use Rattle.orders.specs.Orders.{Meant, meant, order_of}
use Rattle.orders.specs.Setups.{setup_of}
use Rattle.orders.specs.declared.setup.Setup.{Setup}
use Rattle.record_text.specs.Parts.{record_of}
use Rattle.record_text.specs.declared.parts.Defaults.{Defaults}
use Rattle.script.specs.Answers.{term_answer, covers_answer, read_answer}
use Rattle.script.specs.Commands.{command_of}
use Rattle.script.specs.declared.answer.Answer.{Answer}
use Rattle.script.specs.declared.command.Command.{Command}
use Rattle.script.specs.declared.command.Command.TheVariants.{Nothing, Term, Covers, Read, Member, Drain, Order}
use Rattle.script.specs.declared.lines.Asked.{Asked}
use Rattle.words.specs.Lines.{until, word_at, after_words, ended}
use Rattle.words.specs.Numerals.{number_of, short_of}
use Rattle.words.specs.Problems.{bind}
use Rattle.words.specs.declared.problem.Problem.{Problem}

abbrev pub same : {A : Type 0} → A → A
same x = x

-- `L VIEW`
unfoldable pub term_run : List ℕ → Result Answer Problem
term_run bs = bind (short_of (word_at 0 bs)) (λ L. bind (number_of (word_at 1 bs)) (λ v. bind (ended (after_words 2 bs)) (λ _. Ok (term_answer L v))))

-- `L U V`
unfoldable pub covers_run : List ℕ → Result Answer Problem
covers_run bs = bind (short_of (word_at 0 bs)) (λ L. bind (number_of (word_at 1 bs)) (λ u. bind (number_of (word_at 2 bs)) (λ v. bind (ended (after_words 3 bs)) (λ _. Ok (covers_answer L u v)))))

-- `RECORD`, with the defaults where it does not say
unfoldable pub read_by : Defaults → List ℕ → Result Answer Problem
read_by d bs = bind (record_of d bs) (λ b. Ok (read_answer b))

-- `K`
unfoldable pub drain_run : List ℕ → Result ℕ Problem
drain_run bs = bind (number_of (word_at 0 bs)) (λ k. bind (ended (after_words 1 bs)) (λ _. Ok k))

-- what a line asks, by the bytes of its record
pub data Sense : Type 0 where
  nothing : Sense
  answered : (answer : Answer) → Sense
  making : (setup : Setup) → Sense
  ordered : (order : Meant) → Sense
  draining : (count : ℕ) → Sense

abbrev pub sense : Asked → Sense
sense Asked.Nothing = nothing
sense (Asked.Answer a) = answered a
sense (Asked.Member s) = making s
sense (Asked.Order o) = ordered (meant o)
sense (Asked.Drain k) = draining k

-- what a command asks, by the line's words
abbrev pub asked_by : Defaults → Command → List ℕ → Result Sense Problem
asked_by d Nothing bs = Ok nothing
asked_by d Term bs = bind (term_run (after_words 1 bs)) (λ a. Ok (answered a))
asked_by d Covers bs = bind (covers_run (after_words 1 bs)) (λ a. Ok (answered a))
asked_by d Read bs = bind (read_by d (after_words 1 bs)) (λ a. Ok (answered a))
asked_by d Member bs = bind (setup_of (after_words 1 bs)) (λ s. Ok (making s))
asked_by d Drain bs = bind (drain_run (after_words 1 bs)) (λ k. Ok (draining k))
asked_by d Order bs = bind (order_of d bs) (λ o. Ok (ordered o))

-- what a line's text asks, without its comment
unfoldable pub text_asked : Defaults → List ℕ → Result Sense Problem
text_asked d bs = asked_by d (command_of (word_at 0 bs)) bs

abbrev pub asked_run : Defaults → List ℕ → Result Sense Problem
asked_run d bs = text_asked d (take (until 35 bs) bs)
