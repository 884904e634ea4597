-- From a point to the next one, by what a call of the resolver promises.
use Rattle.std.proofs.Common.{◌≡◌, ℕ, Bool, true, false, cond, List, [], ◌∷◌, is_some, Some, None, Ok, Err, Result, Option, refl, ap, subst, MatchResult}
use Rattle.board.specs.Boards.{requested as opens}
use Rattle.board.specs.declared.ask.Ask.{Ask as Asks}
use Rattle.board.specs.declared.open.Open.{Open}
use Rattle.effects.specs.declared.effect.Kind.{Kind as Ask}
use Rattle.effects.specs.declared.listed.Effects.{Effects}
use Rattle.record.specs.declared.fault.Fault.{Fault as Misread}
use Rattle.record.specs.declared.kind.Kind.{Kind}
use Rattle.resolver.specs.Calls.{answer_of, Taken, Judged, Ended, request_answer, If}
use Rattle.resolver.specs.Deliveries.{if_valid, delivery_test, tested, delivery_answer, Nothing, is_valid}
use Rattle.resolver.specs.declared.fault.Fault.{Fault}
use Rattle.resolver.specs.declared.outcome.Delivered.{Delivered}
use Rattle.state.specs.Answers.{refused_if, too_few, if_read, evidence_answer, verdict_answer, marker_answer}
use Rattle.state.specs.Calls.{Unchanged}
use Rattle.state.specs.Serving.{served, copied}
use Rattle.state.specs.Settled.{settled as settles}
use Rattle.state.specs.States.{held, term, epoch_of, fits}
use Rattle.state.specs.declared.fault.Fault.TheVariants.{TooFewPlaces}
use Rattle.state.specs.declared.state.State.{State}
use Rattle.store.specs.Fresh.{fresh}
use Rattle.views.specs.declared.Viewable as viewable
use Rattle.history.specs.Events.{Event, updated, certified, replayed, resolved, delivered, settled, produced, Use, use_with}
use Rattle.history.specs.Promises.{Point}
use Rattle.history.specs.Uses.{use_of, Reached, made, then, Step, Evidence, Suits}
use Rattle.history.proofs.Uses.{at_each, point}

if_both : {P P' Q Q' : Type 0} (b : Bool) → (P → P') → (Q → Q') → If b P Q → If b P' Q'
if_both true f h p = f p
if_both false f h q = h q

module _ {R : Type 0} {g : viewable.Ghosts R} (sort : R → Kind) (era : R → ℕ) where
  same_use : (u : Use R) (s : State R g) → Suits u s → use_of s u.approved ≡ u
  same_use u s f = same_parts (term s) u.length (epoch_of s) u.epoch (fits s) u.fit f.length f.epoch f.fit
    where
      same_parts : (l l' e e' : ℕ) (b b' : Bool) → l ≡ l' → e ≡ e' → b ≡ b' → use_with l e b u.approved ≡ use_with l' e' b' u.approved
      same_parts l l' e e' b b' p q r = rw (p, q, r) refl

  -- a call as its contract says it leads to the next point
  pub next_point : (e : Event R) (s s' : State R g) (os os' : List Open) (u : Use R) (h : List (Event R)) → Reached sort era u h s os → Step sort era (use_of s u.approved) e s s' os os' → Point sort era u (e ∷ h) s' os'
  next_point e s s' os os' u h past d =
      point sort era u (e ∷ h) s' os' (then e past (subst (λ w. Step sort era w e s s' os os') (same_use u s (at_each sort era u h s os past).suits) d))

  module _ {B : Type 0} (asks : B → List Open) (s s' : State R g) (b b' : B) (e e' : Effects) where
    abbrev os : List Open
    os = asks b

    abbrev os' : List Open
    os' = asks b'

    taken_changed : (x : R) → Taken s s' e e' os os' (sort x) x → (u : Use R) → u.length ≡ term s → Evidence sort era u x s s' os os'
    taken_changed x t u same = rw same (record { values = t.state.values; asks = t.asks; fixed = t.state.fixed; promises = t.state.promises })

    pub updated_point : (read : Result R Misread) (n : ℕ) (a : Result (Unit {0}) Fault)
        → a ≡ answer_of (refused_if (too_few (fits s) n) TooFewPlaces (if_read read (λ x. evidence_answer (term s) (sort x) x (held s))))
        → MatchResult a (λ _. (x : R) × (read ≡ Ok x) × Taken s s' e e' os os' (sort x) x) (λ _. Unchanged s s' e e' × (b' ≡ b))
        → (u : Use R) (h : List (Event R)) → Reached sort era u h s os → Point sort era u (updated read n a ∷ h) s' os'
    updated_point read n (Ok a) is d u h past = next_point (updated read n (Ok a)) s s' os os' u h past (is, (d.0, d.1, taken_changed d.0 d.2 (use_of s u.approved) refl))
    updated_point read n (Err f) is d u h past = next_point (updated read n (Err f)) s s' os os' u h past (is, record { state = d.0.state; asks = ap asks d.1 })

    pub certified_point : (pass : Bool) (read : Result R Misread) (n : ℕ) (a : Result (Unit {0}) Fault)
        → a ≡ answer_of (refused_if (too_few (fits s) n) TooFewPlaces (if_read read (λ x. verdict_answer (term s) pass (sort x) (g.viewed x) (held s))))
        → MatchResult a (λ _. (x : R) × (read ≡ Ok x) × Judged s s' e e' os os' pass x) (λ _. Unchanged s s' e e' × (b' ≡ b))
        → (u : Use R) (h : List (Event R)) → Reached sort era u h s os → Point sort era u (certified pass read n a ∷ h) s' os'
    certified_point pass read n (Ok a) is d u h past = next_point (certified pass read n (Ok a)) s s' os os' u h past (is, (d.0, d.1, record { values = d.2.state.values; asks = d.2.asks; fixed = d.2.state.fixed; promises = d.2.state.promises }))
    certified_point pass read n (Err f) is d u h past = next_point (certified pass read n (Err f)) s s' os os' u h past (is, record { state = d.0.state; asks = ap asks d.1 })

    pub replayed_point : (n : ℕ) (a : Result (Unit {0}) Fault)
        → a ≡ answer_of (refused_if (too_few (fits s) n) TooFewPlaces (marker_answer (term s) (held s)))
        → MatchResult a (λ _. Ended s s' e e' os os') (λ _. Unchanged s s' e e' × (b' ≡ b))
        → (u : Use R) (h : List (Event R)) → Reached sort era u h s os → Point sort era u (replayed n a ∷ h) s' os'
    replayed_point n (Ok a) is d u h past = next_point (replayed n (Ok a)) s s' os os' u h past (is, record { changed = record { values = d.state.values; asks = d.asks; fixed = d.state.fixed; promises = d.state.promises }; every_gap_asked = d.state.every_gap_asked })
    replayed_point n (Err f) is d u h past = next_point (replayed n (Err f)) s s' os os' u h past (is, record { state = d.0.state; asks = ap asks d.1 })

    pub delivered_point : (approved : R → Bool) (v : ℕ) (read : Result R Misread) (qs : List Asks) (n : ℕ) (a : Result Delivered Fault)
        → a ≡ tested (delivery_test (fits s) n qs) (delivery_answer (term s) sort qs v (is_valid (term s) sort g.viewed era approved (epoch_of s) v) read (held s))
        → MatchResult a (λ d. If d.taken ((x : R) × (if_valid (is_valid (term s) sort g.viewed era approved (epoch_of s) v) read ≡ Some x) × Taken s s' e e' os os' (sort x) x) (Nothing s s' e e' × (b' ≡ b))) (λ _. Unchanged s s' e e' × (b' ≡ b))
        → (u : Use R) → u.approved ≡ approved → (h : List (Event R)) → Reached sort era u h s os → Point sort era u (delivered v read qs n a ∷ h) s' os'
    delivered_point approved v read qs n (Ok a) is d u same h past = next_point (delivered v read qs n (Ok a)) s s' os os' u h past (
      rw same is,
      if_both a.taken (λ m. (m.0, (rw same m.1), taken_changed m.0 m.2 (use_of s u.approved) refl)) (λ m. record { state = m.0.state; asks = ap asks m.1 }) d,
    )
    delivered_point approved v read qs n (Err f) is d u same h past = next_point (delivered v read qs n (Err f)) s s' os os' u h past (rw same is, record { state = d.0.state; asks = ap asks d.1 })

  module _ (s : State R g) where
    pub resolved_point : {B : Type 0} (asks : B → List Open) (b b' : B) (p v : ℕ) (k : Ask) (t : Option ℕ) (a : Result Bool Fault)
        → a ≡ request_answer (term s) p v k (asks b) (held s)
        → MatchResult a (λ yes. If yes (asks b' ≡ opens v k t (asks b)) (b' ≡ b)) (λ _. b' ≡ b)
        → (u : Use R) (h : List (Event R)) → Reached sort era u h s (asks b) → Point sort era u (resolved p v k t a ∷ h) s (asks b')
    resolved_point asks b b' p v k t (Ok true) is d u h past = next_point (resolved p v k t (Ok true)) s s (asks b) (asks b') u h past (is, refl, d)
    resolved_point asks b b' p v k t (Ok false) is d u h past = next_point (resolved p v k t (Ok false)) s s (asks b) (asks b') u h past (is, refl, ap asks d)
    resolved_point asks b b' p v k t (Err f) is d u h past = next_point (resolved p v k t (Err f)) s s (asks b) (asks b') u h past (is, refl, ap asks d)

    pub settled_point : (v : ℕ) (k : Ask) (a : Bool) → a ≡ settles (term s) k v (held s) → (u : Use R) (h : List (Event R)) (os : List Open) → Reached sort era u h s os → Point sort era u (settled v k a ∷ h) s os
    settled_point v k a is u h os past = next_point (settled v k a) s s os os u h past (is, record { state = refl; asks = refl })

    pub produced_point : (v : ℕ) (found : Bool) (place : R) (before : R) → found ≡ is_some (served (term s) v (held s)) → place ≡ copied (served (term s) v (held s)) before → (u : Use R) (h : List (Event R)) (os : List Open) → Reached sort era u h s os → Point sort era u (produced v (cond found (Some place) None) ∷ h) s os
    produced_point v found place before some is u h os past = next_point (produced v (cond found (Some place) None)) s s os os u h past (told (served (term s) v (held s)) found place some is, record { state = refl; asks = refl })
      where
        told : (x : Option R) (found : Bool) (place : R) → found ≡ is_some x → place ≡ copied x before → cond found (Some place) None ≡ x
        told None found place some is = rw some refl
        told (Some y) found place some is = rw (some, is) refl

    pub made_point : held s ≡ fresh → (approved : R → Bool) → Point sort era (use_of s approved) [] s []
    made_point new approved = point sort era (use_of s approved) [] s [] (made new (record { length = refl; epoch = refl; fit = refl }))
