-- What the program writes: a member that rejoins, told once for each board and once with a peer that lacks something.
use Rattle.std.specs.Prelude.{◌≡◌, ℕ, ◌≤◌, true, List, [], ◌++◌, take, codes, None}
use Rattle.board.specs.declared.open.Open.{Open}
use Rattle.catch_up.specs.declared.TheConstants.{JOURNAL, NEWS, RECORD}
use Rattle.catching_up.specs.Catching.{CaughtUp}
use Rattle.catching_up.specs.Telling.{told_text, Replayed}
use Rattle.catching_up.specs.declared.entry.Entry.{Entry}
use Rattle.effects.specs.Lists.{entries, places}
use Rattle.list_board.specs.Lists.{asks_of}
use Rattle.list_board.specs.declared.list.ListBoard.{ListBoard}
use Rattle.one_member.specs.Making.{Made}
use Rattle.one_member.specs.declared.admitted.Admitted.{Admitted}
use Rattle.one_member.specs.declared.member.Member.{Member}
use Rattle.orders.specs.declared.setup.BoardKind.TheVariants.{Rows}
use Rattle.orders.specs.declared.setup.Setup.{Setup}
use Rattle.peer_rounds.specs.declared.running.Summary.{Summary}
use Rattle.queue.specs.Pendings.{queue_of}
use Rattle.row_board.specs.Boards.{open_asks}
use Rattle.row_board.specs.declared.rows.RowBoard.{RowBoard}
use Rattle.state.specs.States.{held, term, epoch_of, fits}
use Rattle.store.specs.Fresh.{fresh}
use Rattle.terms.specs.Terms.{views}

-- terms of four views, epoch 7, and four seats of which three are a quorum
abbrev pub here : Setup
here = record { term_length = 4; epoch = 7; seats = 4; quorum = 3; board = Rows }

-- a member with nothing recorded, and enough memory
pub record Begins {B : Type 0} (a : Admitted) (board : B) (m : Member B) : Type 0 where
  pub values : held m.resolver.calls.state ≡ fresh
  pub term_length : term m.resolver.calls.state ≡ views a.term_length
  pub epoch : epoch_of m.resolver.calls.state ≡ a.epoch
  pub verifier : m.verifier ≡ a.verifier
  pub seats : m.seats ≡ a.seats
  pub board_is : m.board ≡ board
  pub no_effects : entries m.effects ≡ []
  pub nothing_waits : queue_of m.queue ≡ record { finalization = None; messages = [] }
  pub fit : fits m.resolver.calls.state ≡ true
  pub room : 256 ≤ places m.effects

-- the peer takes in what it holds, and then the member catches up
pub record Story {B C : Type 0} (asks : B → List Open) (theirs : C → List Open) (own : B) (others : C) (es : List Entry) (text : List ℕ) : Type 0 where
  pub admitted : Admitted
  pub as_here : Made here admitted
  pub new_peer : Member C
  pub peer_begins : Begins admitted others new_peer
  pub peer : Member C
  pub first : List ℕ
  pub replayed : Replayed theirs es new_peer peer first
  pub member : Member B
  pub begins : Begins admitted own member
  pub last : Member B
  pub summary : Summary
  pub second : List ℕ
  pub caught_up : CaughtUp asks peer JOURNAL NEWS member last summary second
  pub is : text ≡ codes "the peer\n" ++ (first ++ (told_text theirs peer ++ (codes "the member\n" ++ second)))

-- both have nothing open when they begin
pub record StoryOn {B : Type 0} (asks : B → List Open) (es : List Entry) (text : List ℕ) : Type 0 where
  pub own : B
  pub others : B
  pub none_open : asks own ≡ []
  pub none_of_theirs : asks others ≡ []
  pub story : Story asks asks own others es text

pub record Shown (text : List ℕ) : Type 0 where
  pub rows : List ℕ
  pub on_rows : StoryOn {B = RowBoard} open_asks RECORD rows
  pub list : List ℕ
  pub on_list : StoryOn {B = ListBoard} asks_of RECORD list
  pub lacking : List ℕ
  pub on_lacking : StoryOn {B = RowBoard} open_asks (take 11 RECORD) lacking
  pub is : text ≡ codes "== a board of rows, and a peer that holds all\n" ++ (rows ++ (codes "\n== a board in order of arrival, and a peer that holds all\n" ++ (list ++ (codes "\n== a peer that lacks the nullification of view 25\n" ++ lacking))))
