-- An ask that is settled is not open.
use Rattle.std.proofs.Common.{◌≡◌, ℕ, ◌≤◌, true, false, List, sym, subst, ◌∙◌, arith}
use Rattle.std.proofs.lemmas.Grind.{common_steps}
use Rattle.board.specs.Asks.{kind_of}
use Rattle.board.specs.Boards.{is_open}
use Rattle.board.specs.declared.ask.Ask.{Ask}
use Rattle.board.specs.declared.ask.Ask.TheVariants.{Background, Ancestry}
use Rattle.board.specs.declared.open.Open.{Open}
use Rattle.effects.specs.declared.effect.Kind.TheVariants.{Nullification}
use Rattle.history.specs.Calls.{Call, floor, finalized, needed, settles}
use Rattle.history.specs.Events.{Event, calls, Use}
use Rattle.history.specs.Uses.{Reached}
use Rattle.history.proofs.Uses.{law, at_each}
use Rattle.one_member.specs.Carried.{epoch_in}
use Rattle.one_member.specs.declared.member.Member.{Member}
use Rattle.record.specs.Certificates.{kind_in}
use Rattle.record.specs.declared.kind.Kind.{Kind}
use Rattle.state.specs.Settled.{settled}
use Rattle.state.specs.States.{held}
use Rattle.state.specs.declared.state.State.{State}
use Rattle.views.specs.declared.Viewable as viewable
use Rattle.peer_rounds.specs.Laws.{SettledIsClosed}
use Rattle.peer_rounds.specs.Lives.{Lived}
use Rattle.peer_rounds.proofs.Recordings.{recorded_at}

-- what is settled need not be asked for
needless : {R : Type 0} (viewed : R → ℕ) (sort : R → Kind) (L v : ℕ) (h : List (Call R)) → finalized viewed sort h ≤ floor viewed sort h → settles viewed sort L Nullification v h ≡ true → needed viewed sort L v h ≡ false
needless viewed sort L v h low t = grind (arith, common_steps)

module _ {R : Type 0} {g : viewable.Ghosts R} (sort : R → Kind) (era : R → ℕ) (u : Use R) (h : List (Event R)) (s : State R g) (os : List Open) (past : Reached sort era u h s os) where
  closed : (v : ℕ) (a : Ask) → settled u.length (kind_of a) v (held s) ≡ true → is_open v a os ≡ false
  closed v Background t =
      let p = law g sort era u h s os past in
      let r = recorded_at sort era u h s os past in
      let low : finalized g.viewed sort (calls h) ≤ floor g.viewed sort (calls h) = omega (arith, s.lawful.sound.floor_finalized, r.top, r.floor) in
      let none = needless g.viewed sort u.length v (calls h) low (sym (p.settled_exactly_when_recorded Nullification v) ∙ t) in
      let asked = p.background_asks_are_needed_views v in
      grind (arith, common_steps)
  closed v (Ancestry k) t =
      let p = law g sort era u h s os past in
      let is = sym (p.settled_exactly_when_recorded k v) ∙ t in
      let asked = p.ancestry_asks_are_unsettled_requests k v in
      grind (arith, common_steps)

pub settled_is_closed : {B : Type 0} (asks : B → List Open) (m : Member B) → Lived asks m → SettledIsClosed asks m
settled_is_closed asks m l v a t =
    let fits = (at_each kind_in epoch_in l.going l.calls m.resolver.calls.state (asks m.board) l.reached).suits in
    closed kind_in epoch_in l.going l.calls m.resolver.calls.state (asks m.board) l.reached v a (subst (λ n. settled n (kind_of a) v (held m.resolver.calls.state) ≡ true) fits.length t)
