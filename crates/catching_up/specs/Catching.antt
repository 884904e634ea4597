-- A member that rejoins, from its journal to the last round.
use Rattle.std.specs.Prelude.{◌≡◌, List, ℕ, ◌++◌}
use Rattle.board.specs.declared.open.Open.{Open}
use Rattle.peer_rounds.specs.Runs.{Rounds}
use Rattle.catching_up.specs.Telling.{Rejoined, closing_text}
use Rattle.catching_up.specs.declared.entry.Entry.{Entry}
use Rattle.peer_rounds.specs.declared.running.Summary.{Summary}
use Rattle.one_member.specs.declared.member.Member.{Member}

-- what is written: the beginning, the rounds, and what came of them
pub record CaughtUp {B C : Type 0} (asks : B → List Open) (peer : Member C) (journal : List Entry) (news : Entry) (m n : Member B) (s : Summary) (text : List ℕ) : Type 0 where
  pub asking : Member B
  pub first : List ℕ
  pub rejoined : Rejoined asks journal news m asking first
  pub second : List ℕ
  pub rounds : Rounds asks peer asking n s second
  pub is : text ≡ first ++ (second ++ closing_text asks s n)
