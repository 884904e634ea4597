-- Rounds: each open ask is put to the peer, view by view.
use Rattle.std.specs.Prelude.{◌≡◌, ℕ, ◌+◌, ◌^◌, cond, List, [], ◌++◌, Some, None, Option, nat_lt}
use Rattle.std.specs.Io.KnownBytes.{Appends}
use Rattle.board.specs.Boards.{first_from}
use Rattle.board.specs.declared.ask.Ask.TheVariants.{Background}
use Rattle.board.specs.declared.open.Open.{Open}
use Rattle.peer_rounds.specs.Puts.{PutTo}
use Rattle.peer_rounds.specs.Tallies.{tally_of, no_tally, with_all}
use Rattle.peer_rounds.specs.Texts.{put_line}
use Rattle.peer_rounds.specs.declared.asked.Put.{Put}
use Rattle.peer_rounds.specs.declared.tally.Tally.{Tally}
use Rattle.one_member.specs.declared.member.Member.{Member}

abbrev pub view_of : Option Open → Option ℕ
view_of None = None
view_of (Some o) = Some o.view

-- the lowest view with an open ask that is not below this one
abbrev pub open_from : Option ℕ → List Open → Option ℕ
open_from None os = None
open_from (Some v) os = view_of (first_from v Background os)

-- the view after one: views have 64 bits
abbrev pub following : ℕ → Option ℕ
following v = cond (nat_lt (v + 1) (2 ^ 64)) (Some (v + 1)) None

-- this was written
pub record Wrote (before after : Option (List ℕ)) (Is : List ℕ → Type 0) : Type 0 where
  pub text : List ℕ
  pub written : Appends before after text
  pub told : Is text

module _ {B C : Type 0} (asks : B → List Open) (peer : Member C) (m : Member B) where
  -- views that were put one after the other, with where the next is looked for, what was counted, and the lines
  pub data Puts : Option ℕ → Member B → Tally → List ℕ → Type 0 where
    none : Puts (Some 0) m no_tally []
    more : {from : Option ℕ} {k : Member B} {t : Tally} {text : List ℕ} (v : ℕ) (p : Put) (n : Member B) → Puts from k t text → open_from from (asks k.board) ≡ Some v → PutTo asks peer v p k n → Puts (following v) n (with_all t (tally_of p)) (text ++ put_line p)

  -- until no view with an open ask is left above
  pub record Round (n : Member B) (t : Tally) (text : List ℕ) : Type 0 where
    pub last : Option ℕ
    pub puts : Puts last n t text
    pub none_left : open_from last (asks n.board) ≡ None
