-- Where one use of one resolver leads: it was made, and then called.
use Rattle.std.specs.Prelude.{◌≡◌, ℕ, Bool, cond, List, [], ◌∷◌, Ok, Some, MatchResult}
use Rattle.board.specs.Boards.{requested as opened}
use Rattle.board.specs.declared.open.Open.{Open}
use Rattle.record.specs.declared.kind.Kind.{Kind}
use Rattle.resolver.specs.Applied.{applied}
use Rattle.resolver.specs.Calls.{answer_of, request_answer, If}
use Rattle.resolver.specs.Deliveries.{delivery_test, tested, delivery_answer, if_valid, is_valid}
use Rattle.state.specs.Answers.{refused_if, too_few, if_read, evidence_answer, verdict_answer, marker_answer}
use Rattle.state.specs.Calls.{Fixed}
use Rattle.state.specs.Laws.{Promises, EveryGapAsked}
use Rattle.state.specs.Serving.{served}
use Rattle.state.specs.Settled.{settled as settles}
use Rattle.state.specs.States.{held, term, epoch_of, fits}
use Rattle.state.specs.declared.fault.Fault.TheVariants.{TooFewPlaces}
use Rattle.state.specs.declared.state.State.{State}
use Rattle.store.specs.Fresh.{fresh}
use Rattle.store.specs.Steps as step
use Rattle.store.specs.Values.{Values}
use Rattle.effects.specs.declared.effect.Effect.{Effect}
use Rattle.views.specs.declared.Viewable as viewable
use Rattle.history.specs.Events.{Event, updated, certified, replayed, resolved, delivered, settled, produced, Use, use_with}

-- a delivered record is one that answers for a view
abbrev pub passes : {R : Type 0} → (R → ℕ) → (R → Kind) → (R → ℕ) → Use R → ℕ → R → Bool
passes viewed sort era u v x = is_valid u.length sort viewed era u.approved u.epoch v x

module _ {R : Type 0} {g : viewable.Ghosts R} where
  -- the call changed nothing
  pub record Same (s s' : State R g) (os os' : List Open) : Type 0 where
    pub state : s' ≡ s
    pub asks : os' ≡ os

  -- the call left these values, and the board followed these effects
  pub record Changed (vs : Values R g) (es : List Effect) (s s' : State R g) (os os' : List Open) : Type 0 where
    pub values : held s' ≡ vs
    pub asks : os' ≡ applied es os
    pub fixed : Fixed s s'
    pub promises : Promises (term s) (held s) (held s') es

  -- the use that a state goes by
  abbrev pub use_of : State R g → (R → Bool) → Use R
  use_of s approved = use_with (term s) (epoch_of s) (fits s) approved

  -- the state goes by the use's term length and epoch
  pub record Suits (u : Use R) (s : State R g) : Type 0 where
    pub length : term s ≡ u.length
    pub epoch : epoch_of s ≡ u.epoch
    pub fit : fits s ≡ u.fit

  module _ (sort : R → Kind) (era : R → ℕ) (u : Use R) where
    abbrev pub Evidence : R → State R g → State R g → List Open → List Open → Type 0
    Evidence x s s' os os' = Changed (step.updated u.length (sort x) x (held s)) (step.updated_effects u.length (sort x) x (held s)) s s' os os'

    abbrev pub Verdict : Bool → R → State R g → State R g → List Open → List Open → Type 0
    Verdict b x s s' os os' = Changed (step.certified u.length b x (held s)) (step.certified_effects u.length b x (held s)) s s' os os'

    pub record Marker (s s' : State R g) (os os' : List Open) : Type 0 where
      pub changed : Changed (step.replayed u.length (held s)) (step.replayed_effects u.length (held s)) s s' os os'
      pub every_gap_asked : EveryGapAsked u.length (held s) (held s') (step.replayed_effects u.length (held s))

    -- a call, as the resolver's contracts say it
    abbrev pub Step : Event R → State R g → State R g → List Open → List Open → Type 0
    Step (updated read n a) s s' os os' =
        (a ≡ answer_of (refused_if (too_few u.fit n) TooFewPlaces (if_read read (λ x. evidence_answer u.length (sort x) x (held s)))))
        × MatchResult a (λ _. (x : R) × (read ≡ Ok x) × Evidence x s s' os os') (λ _. Same s s' os os')
    Step (certified b read n a) s s' os os' =
        (a ≡ answer_of (refused_if (too_few u.fit n) TooFewPlaces (if_read read (λ x. verdict_answer u.length b (sort x) (g.viewed x) (held s)))))
        × MatchResult a (λ _. (x : R) × (read ≡ Ok x) × Verdict b x s s' os os') (λ _. Same s s' os os')
    Step (replayed n a) s s' os os' =
        (a ≡ answer_of (refused_if (too_few u.fit n) TooFewPlaces (marker_answer u.length (held s))))
        × MatchResult a (λ _. Marker s s' os os') (λ _. Same s s' os os')
    Step (resolved p v k t a) s s' os os' =
        (a ≡ request_answer u.length p v k os (held s))
        × (s' ≡ s) × MatchResult a (λ b. os' ≡ cond b (opened v k t os) os) (λ _. os' ≡ os)
    Step (delivered v read qs n a) s s' os os' =
        (a ≡ tested (delivery_test u.fit n qs) (delivery_answer u.length sort qs v (passes g.viewed sort era u v) read (held s)))
        × MatchResult a (λ d. If d.taken ((x : R) × (if_valid (passes g.viewed sort era u v) read ≡ Some x) × Evidence x s s' os os') (Same s s' os os')) (λ _. Same s s' os os')
    Step (settled v k a) s s' os os' = (a ≡ settles u.length k v (held s)) × Same s s' os os'
    Step (produced v a) s s' os os' = (a ≡ served u.length v (held s)) × Same s s' os os'

    -- the making, and then these calls with these answers, lead to this state and these open asks
    pub data Reached : List (Event R) → State R g → List Open → Type 0 where
      made : {s : State R g} → held s ≡ fresh → Suits u s → Reached [] s []
      then : {h : List (Event R)} {s s' : State R g} {os os' : List Open} (e : Event R) → Reached h s os → Step e s s' os os' → Reached (e ∷ h) s' os'
