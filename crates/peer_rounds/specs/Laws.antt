-- What a member that has nothing open has come to.
use Rattle.std.specs.Prelude.{◌≡◌, ℕ, ◌<◌, Bool, true, false, List, Ok, Err}
use Rattle.std.specs.List.{AllByRecursion}
use Rattle.board.specs.Asks.{kind_of}
use Rattle.board.specs.Boards.{is_open}
use Rattle.board.specs.declared.ask.Ask.{Ask}
use Rattle.board.specs.declared.open.Open.{Open}
use Rattle.peer_rounds.specs.Lives.{Lived}
use Rattle.peer_rounds.specs.declared.asked.Came.{Came}
use Rattle.peer_rounds.specs.declared.asked.Came.TheVariants.{Nothing, Brought}
use Rattle.peer_rounds.specs.declared.running.End.{End}
use Rattle.peer_rounds.specs.declared.running.End.TheVariants.{NothingOpen}
use Rattle.effects.specs.declared.effect.Kind.TheVariants.{Nullification}
use Rattle.one_member.specs.declared.member.Member.{Member}
use Rattle.resolver.specs.declared.outcome.Outcome.{Outcome}
use Rattle.resolver.specs.declared.outcome.Outcome.TheVariants.{Ignored, Invalid, Unresolved, Partial, Complete, LetGo}
use Rattle.state.specs.Settled.{settled}
use Rattle.state.specs.States.{held, term}
use Rattle.store.specs.Values.{Values}
use Rattle.views.specs.declared.Viewable as viewable

-- whether a view is settled for nullifications; terms have L views
abbrev pub is_settled : {R : Type 0} {g : viewable.Ghosts R} → ℕ → Values R g → ℕ → Bool
is_settled L s v = settled L Nullification v s

-- each view between the floor and the current view is settled for nullifications
abbrev pub LacksNothing : {B : Type 0} → Member B → Type 0
LacksNothing m = (v : ℕ) → (held m.resolver.calls.state).floor < v → v < (held m.resolver.calls.state).current → is_settled (term m.resolver.calls.state) (held m.resolver.calls.state) v ≡ true

abbrev pub HasReplayed : {B : Type 0} → Member B → Type 0
HasReplayed m = (held m.resolver.calls.state).replaying ≡ false

-- where rounds end since nothing is open, nothing is missed: no view was never asked for
abbrev pub NothingMissed : {B : Type 0} → (B → List Open) → Member B → Member B → End → Type 0
NothingMissed asks m n end = end ≡ NothingOpen → Lived asks m → HasReplayed n → LacksNothing n

-- an ask that is settled is not open
abbrev pub SettledIsClosed : {B : Type 0} → (B → List Open) → Member B → Type 0
SettledIsClosed asks m = (v : ℕ) (a : Ask) → settled (term m.resolver.calls.state) (kind_of a) v (held m.resolver.calls.state) ≡ true → is_open v a (asks m.board) ≡ false

abbrev pub completes : Outcome → Bool
completes Ignored = false
completes Invalid = false
completes Unresolved = false
completes Partial = false
completes Complete = true
completes LetGo = false

-- a record came back that settled what of the asks was not settled before
abbrev pub is_complete : Came → Bool
is_complete Nothing = false
is_complete (Brought c (Ok d) p) = completes d.outcome
is_complete (Brought c (Err f) p) = false

-- none of these asks is open at the view
abbrev pub AllClosed : {B : Type 0} → (B → List Open) → ℕ → List Open → Member B → Type 0
AllClosed asks v os m = AllByRecursion (λ o. is_open v o.ask (asks m.board) ≡ false) os
