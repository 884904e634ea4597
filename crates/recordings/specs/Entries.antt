-- The commands of a file, each with its recorded answer.
use Rattle.std.specs.Prelude.{◌≡◌, ℕ, ◌+◌, ◌<◌, true, false, List, length, take, drop, Option, Some, None}
use Rattle.recordings.specs.Cuts.{marked, Passed}
use Rattle.recordings.specs.declared.recording.Entry.{Entry}
use Rattle.recordings.specs.declared.recording.Recording.{Recording}
use Rattle.words.specs.Lines.{until}

-- a whole file, from its first command on
pub record Begun (file : List ℕ) (s : Recording) : Type 0 where
  pub bytes : ℕ
  pub passed : Passed file bytes s.number
  pub rest : s.rest.now ≡ drop bytes file

-- what follows the first line
abbrev pub after_line : List ℕ → List ℕ
after_line bs = drop (until 10 bs + 1) bs

-- the next command, and what stands before the one after it
pub record Cut (s : Recording) (e : Entry) (t : Recording) : Type 0 where
  pub is_command : marked s.rest.now ≡ true
  pub line : e.line ≡ s.number + 1
  pub command : e.command.now ≡ take (until 10 (drop 2 s.rest.now)) (drop 2 s.rest.now)
  pub bytes : ℕ
  pub lines : ℕ
  pub passed : Passed (after_line (drop 2 s.rest.now)) bytes lines
  pub answer : e.answer.now ≡ take bytes (after_line (drop 2 s.rest.now))
  pub rest : t.rest.now ≡ drop bytes (after_line (drop 2 s.rest.now))
  pub number : t.number ≡ s.number + 1 + lines
  pub fewer : length t.rest.now < length s.rest.now

abbrev pub Gives : Recording → Option Entry → Recording → Type 0
Gives s (Some e) t = Cut s e t
Gives s None t = (marked s.rest.now ≡ false) × (t ≡ s)
