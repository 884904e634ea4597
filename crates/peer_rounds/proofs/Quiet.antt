-- A member that has nothing open lacks nothing.
use Rattle.std.proofs.Common.{◌≡◌, ℕ, ◌+◌, ◌<◌, ◌≤◌, true, false, List, [], ◌∷◌, Some, None, refl, sym, subst, inl, inr, ◌∙◌, arith}
use Rattle.std.proofs.lemmas.Bool.{cases_Bool, cases_lt}
use Rattle.std.proofs.lemmas.Grind.{common_steps}
use Rattle.board.specs.Sorting.{lookup}
use Rattle.board.specs.declared.open.Open.{Open}
use Rattle.effects.specs.declared.effect.Kind.TheVariants.{Nullification}
use Rattle.history.specs.Calls.{Call, covered, is_gap, floor, current}
use Rattle.history.specs.Events.{Event, calls, Use}
use Rattle.history.specs.Uses.{Reached}
use Rattle.history.proofs.Covered.{by_some_call}
use Rattle.history.proofs.Uses.{law, at_each}
use Rattle.one_member.specs.Carried.{epoch_in}
use Rattle.one_member.specs.declared.member.Member.{Member}
use Rattle.record.specs.Certificates.{kind_in}
use Rattle.record.specs.declared.kind.Kind.{Kind}
use Rattle.state.specs.Settled.{settled}
use Rattle.state.specs.States.{held, term}
use Rattle.state.specs.declared.state.State.{State}
use Rattle.terms.proofs.Laws.{own_start, starts_itself, covers_on}
use Rattle.terms.specs.Terms.{start}
use Rattle.views.specs.declared.Viewable as viewable
use Rattle.peer_rounds.specs.Laws.{HasReplayed, LacksNothing}
use Rattle.peer_rounds.specs.Lives.{Lived}
use Rattle.peer_rounds.specs.Rounds.{open_from}
use Rattle.peer_rounds.proofs.Recordings.{recorded_at}

module _ {R : Type 0} (viewed : R → ℕ) (sort : R → Kind) (L : ℕ) (positive : 0 < L) (h : List (Call R)) where
  -- what covers a view covers each later one of its term
  covered_on : (a v : ℕ) → start L v ≤ a → a ≤ v → covered viewed sort L a h ≡ true → covered viewed sort L v h ≡ true
  covered_on a v low up t =
      let m = (by_some_call viewed sort L a h).0 t in
      (by_some_call viewed sort L v h).1 (m.0, covers_on L positive m.0 a v low up m.1, m.2)

  bare_before : (a v : ℕ) → start L v ≤ a → a ≤ v → covered viewed sort L v h ≡ false → covered viewed sort L a h ≡ false
  bare_before a v low up f = elim (cases_Bool (covered viewed sort L a h)) [
    | inl t ↦ let c = covered_on a v low up t in absurd (grind (arith, common_steps))
    | inr g ↦ g
  ]

  -- a view without a cover has a gap at or below it
  gap_below : (v : ℕ) → floor viewed sort h < v → v < current viewed sort h → covered viewed sort L v h ≡ false → (a : ℕ) × (is_gap viewed sort L a h ≡ true)
  gap_below v above below bare = elim (cases_lt (floor viewed sort h) (start L v)) [
    | inr low ↦
        let f = floor viewed sort h in
        let b = bare_before (f + 1) v (omega arith) (omega arith) bare in
        (f + 1, grind (arith, common_steps))
    | inl high ↦
        let b = bare_before (start L v) v (omega arith) (own_start L positive v) bare in
        let i = starts_itself L positive v in
        let o = own_start L positive v in
        (start L v, grind (arith, common_steps))
  ]

-- no view has an open ask
pub none_open : (os : List Open) → open_from (Some 0) os ≡ None → os ≡ []
none_open [] e = refl
none_open (o ∷ os) e = absurd (grind (arith, common_steps))

module _ {R : Type 0} {g : viewable.Ghosts R} (sort : R → Kind) (era : R → ℕ) (u : Use R) (h : List (Event R)) (s : State R g) (past : Reached sort era u h s []) (over : (held s).replaying ≡ false) where
  -- each view between the floor and the current view is settled
  pub nothing_missed : (v : ℕ) → (held s).floor < v → v < (held s).current → settled (term s) Nullification v (held s) ≡ true
  unfolding lookup
  nothing_missed v above below =
      let p = law g sort era u h s [] past in
      let r = recorded_at sort era u h s [] past in
      let fits = (at_each sort era u h s [] past).suits in
      let positive : 0 < u.length = omega (arith, s.store.term_length.positive, fits.length) in
      subst (λ n. settled n Nullification v (held s) ≡ true) (sym fits.length) (p.settled_exactly_when_recorded Nullification v ∙ elim (cases_Bool (covered g.viewed sort u.length v (calls h))) [
        | inl t ↦ grind (arith, common_steps)
        | inr bare ↦
            let gap = gap_below g.viewed sort u.length positive (calls h) v (omega (arith, above, r.floor)) (omega (arith, below, r.current)) bare in
            let asked = p.background_asks_are_needed_views gap.0 in
            let is = gap.1 in
            let replay = r.replaying in
            absurd (grind (arith, common_steps))
      ])

-- the same of a member
pub lacks_nothing : {B : Type 0} (asks : B → List Open) (m : Member B) → open_from (Some 0) (asks m.board) ≡ None → Lived asks m → HasReplayed m → LacksNothing m
lacks_nothing asks m none l over = nothing_missed kind_in epoch_in l.going l.calls m.resolver.calls.state (subst (λ os. Reached kind_in epoch_in l.going l.calls m.resolver.calls.state os) (none_open (asks m.board) none) l.reached) over
