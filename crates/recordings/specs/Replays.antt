-- A file that is played again: what is given, and what comes of an answer.
use Rattle.std.specs.Prelude.{◌≡◌, ℕ, Bool, List, Option, Some, None}
use Rattle.std.specs.Borrow.{Bor}
use Rattle.std.specs.Io.KnownBytes.{Appends}
use Rattle.std.specs.Str.{bytes_eq}
use Rattle.recordings.specs.Entries.{Gives}
use Rattle.recordings.specs.Tallies.{counted, compared_text}
use Rattle.recordings.specs.declared.recording.Entry.{Entry}
use Rattle.recordings.specs.declared.replay.Replay.{Replay}

-- the command of an entry is given, by the number of its line
abbrev pub Says : Option Entry → Option (ℕ × Bor (List ℕ)) → Type 0
Says (Some e) (Some p) = (p.0 ≡ e.line) × (p.1.now ≡ e.command.now)
Says (Some e) None = ⊥
Says None (Some p) = ⊥
Says None None = Unit {0}

-- the recorded answer that the next one is compared with
abbrev pub awaited : Option Entry → List ℕ → List ℕ
awaited (Some e) before = e.answer.now
awaited None before = before

module _ {W : Type 0} where
  pub record Given (s : Replay W) (given : Option (ℕ × Bor (List ℕ))) (t : Replay W) : Type 0 where
    pub entry : Option Entry
    pub gives : Gives s.recording entry t.recording
    pub says : Says entry given
    pub recorded : t.recorded.now ≡ awaited entry s.recorded.now
    pub out : t.out ≡ s.out
    pub tally : t.tally ≡ s.tally

  -- an answer is compared, and told if it differs
  pub record Compared (contents : W → Option (List ℕ)) (s : Replay W) (line : ℕ) (answer : List ℕ) (command : Bool) (t : Replay W) : Type 0 where
    pub recording : t.recording ≡ s.recording
    pub recorded : t.recorded ≡ s.recorded
    pub tally : t.tally ≡ counted (bytes_eq answer s.recorded.now) command s.tally
    pub out : Appends (contents s.out) (contents t.out) (compared_text (bytes_eq answer s.recorded.now) line answer)
