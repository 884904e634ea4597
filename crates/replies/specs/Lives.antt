-- One member after the other, and what is answered while each of them is there.
use Rattle.std.specs.Prelude.{◌≡◌, ℕ, ◌≤◌, Bool, true, List, [], Option, Some, None}
use Rattle.std.specs.Borrow.{Bor}
use Rattle.board.specs.declared.open.Open.{Open}
use Rattle.effects.specs.Lists.{entries, places}
use Rattle.list_board.specs.Lists.{asks_of}
use Rattle.one_member.specs.declared.admitted.Admitted.{Admitted}
use Rattle.one_member.specs.declared.member.Member.{Member}
use Rattle.orders.specs.declared.setup.BoardKind.{BoardKind}
use Rattle.orders.specs.declared.setup.BoardKind.TheVariants as kind
use Rattle.queue.specs.Pendings.{queue_of}
use Rattle.replies.specs.Replies.{AnsweredAlone, AnsweredBy}
use Rattle.replies.specs.Talks.{Talk}
use Rattle.replies.specs.declared.turn.Turn.{Turn}
use Rattle.row_board.specs.Boards.{open_asks}
use Rattle.state.specs.States.{held, term, epoch_of, fits}
use Rattle.store.specs.Fresh.{fresh}
use Rattle.terms.specs.Terms.{views}

-- where there is no member, nobody changes
abbrev pub alone : ℕ → List ℕ → Turn → Unit {0} → Unit {0} → List ℕ → Type 0
alone line text turn m n answer = AnsweredAlone line text turn answer

-- a member as it was admitted, with nothing recorded, no open ask, nothing that waits, and enough memory
pub record Fresh {B : Type 0} (asks : B → List Open) (a : Admitted) (m : Member B) : Type 0 where
  pub values : held m.resolver.calls.state ≡ fresh
  pub term_length : term m.resolver.calls.state ≡ views a.term_length
  pub epoch : epoch_of m.resolver.calls.state ≡ a.epoch
  pub verifier : m.verifier ≡ a.verifier
  pub seats : m.seats ≡ a.seats
  pub board : asks m.board ≡ []
  pub effects : entries m.effects ≡ []
  pub queue : queue_of m.queue ≡ record { finalization = None; messages = [] }
  pub memory : fits m.resolver.calls.state ≡ true
  pub list : 256 ≤ places m.effects

module _ {S : Type 0} (given : S → Option (ℕ × Bor (List ℕ)) → S → Type 0) (taken : S → ℕ → List ℕ → Bool → S → Type 0) where
  -- a fresh member answers until another one is made, or no line is left
  pub record Life {B : Type 0} (asks : B → List Open) (a : Admitted) (s : S) (next : Option Admitted) (u : S) : Type 0 where
    pub begun : Member B
    pub ended : Member B
    pub is_fresh : Fresh asks a begun
    pub talk : Talk given taken (AnsweredBy asks) s begun next u ended

  -- on the board that was asked for
  abbrev pub LifeOn : BoardKind → Admitted → S → Option Admitted → S → Type 0
  LifeOn kind.Rows = Life open_asks
  LifeOn kind.List = Life asks_of

  -- no member, and then one after the other
  pub data Lived : S → Option Admitted → S → Type 0 where
    first : {s u : S} {next : Option Admitted} → Talk given taken alone s tt next u tt → Lived s next u
    another : {s t u : S} {next : Option Admitted} (a : Admitted) → Lived s (Some a) t → LifeOn a.board a t next u → Lived s next u
