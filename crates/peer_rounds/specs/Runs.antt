-- Rounds one after the other, and how they end.
use Rattle.std.specs.Prelude.{◌≡◌, ℕ, ◌+◌, ◌<◌, List, [], ◌++◌, Some, None, IsSome}
use Rattle.board.specs.declared.open.Open.{Open}
use Rattle.peer_rounds.specs.Rounds.{open_from, Round}
use Rattle.peer_rounds.specs.Tallies.{no_tally, with_all}
use Rattle.peer_rounds.specs.Texts.{round_line}
use Rattle.peer_rounds.specs.declared.running.End.{End}
use Rattle.peer_rounds.specs.declared.running.End.TheVariants.{NothingOpen, NothingSettled, TooMany}
use Rattle.peer_rounds.specs.declared.running.Summary.{Summary}
use Rattle.peer_rounds.specs.declared.tally.Tally.{Tally}
use Rattle.one_member.specs.declared.member.Member.{Member}

module _ {B C : Type 0} (asks : B → List Open) (peer : Member C) (m : Member B) where
  -- so many rounds: before each something is open, and in each a record came back that settled an ask
  pub data Ran : ℕ → Member B → Tally → List ℕ → Type 0 where
    none : Ran 0 m no_tally []
    more : {n : ℕ} {k : Member B} {t : Tally} {text : List ℕ} (r : Member B) (one : Tally) (lines : List ℕ) → Ran n k t text → IsSome (open_from (Some 0) (asks k.board)) → Round asks peer k r one lines → 0 < one.settling → Ran (n + 1) r (with_all t one) (text ++ (round_line (n + 1) ++ lines))

  -- a last round that settled nothing
  pub record Idle (n : ℕ) (t : Tally) (r : Member B) (text : List ℕ) : Type 0 where
    pub rounds : ℕ
    pub tally : Tally
    pub standing : Member B
    pub said : List ℕ
    pub ran : Ran rounds standing tally said
    pub one : Tally
    pub lines : List ℕ
    pub round : Round asks peer standing r one lines
    pub settled : one.settling ≡ 0
    pub number : n ≡ rounds + 1
    pub counted : t ≡ with_all tally one
    pub is : text ≡ said ++ (round_line n ++ lines)

  abbrev pub Ended : End → ℕ → Tally → Member B → List ℕ → Type 0
  Ended NothingOpen n t r text = Ran n r t text × (open_from (Some 0) (asks r.board) ≡ None)
  Ended NothingSettled n t r text = Idle n t r text
  Ended TooMany n t r text = Ran n r t text × (n ≡ 64)

  abbrev pub Rounds : Member B → Summary → List ℕ → Type 0
  Rounds r s text = Ended s.end s.rounds s.tally r text
