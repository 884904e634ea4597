-- What a member holds, by the calls that led to it.
use Rattle.std.proofs.Common.{◌≡◌, ℕ, Bool, true, false, List, [], ◌∷◌, ◌++◌, Ok, Err, Result, Some, refl, sym, subst, inl, inr, arith}
use Rattle.std.proofs.lemmas.Bool.{cases_Bool}
use Rattle.std.proofs.lemmas.Grind.{common_steps}
use Rattle.board.specs.declared.ask.Ask.{Ask as Asks}
use Rattle.board.specs.declared.open.Open.{Open}
use Rattle.history.specs.Calls.{Call, evidence, verdict, marker, request}
use Rattle.history.specs.Events.{Event, updated, certified, replayed, resolved, delivered, settled, produced, accepted, calls, Use}
use Rattle.history.specs.Uses.{Reached, made, then, Step, Same, Evidence, passes}
use Rattle.history.proofs.Recorded.{Recorded, recorded_evidence, recorded_verdict, recorded_marker, recorded_request, recorded_made}
use Rattle.record.specs.declared.fault.Fault.{Fault as Misread}
use Rattle.record.specs.declared.kind.Kind.{Kind}
use Rattle.resolver.specs.Calls.{If}
use Rattle.resolver.specs.Deliveries.{if_valid}
use Rattle.resolver.specs.declared.outcome.Delivered.{Delivered}
use Rattle.state.specs.States.{held}
use Rattle.state.specs.declared.state.State.{State}
use Rattle.views.specs.declared.Viewable as viewable

if_valid_read : {R : Type 0} (valid : R → Bool) (read : Result R Misread) (x : R) → if_valid valid read ≡ Some x → read ≡ Ok x
if_valid_read valid (Ok y) x e = elim (cases_Bool (valid y)) [ inl t ↦ (let f = e in grind (arith, common_steps)) | inr f ↦ (let w = e in grind (arith, common_steps)) ]
if_valid_read valid (Err f) x e = (let w = e in grind (arith, common_steps))

module _ {R : Type 0} {g : viewable.Ghosts R} (sort : R → Kind) (era : R → ℕ) (u : Use R) where
  module _ (h : List (Event R)) (s s' : State R g) (os os' : List Open) (r : Recorded sort u.length (calls h) (held s)) where
    -- after a call that was accepted, and after one that changed nothing
    one : (e : Event R) (c : Call R) → accepted e ≡ c ∷ [] → Recorded sort u.length (c ∷ calls h) (held s') → Recorded sort u.length (calls (e ∷ h)) (held s')
    unfolding calls
    one e c is next = subst (λ cs. Recorded sort u.length (cs ++ calls h) (held s')) (sym is) next

    still : (e : Event R) → accepted e ≡ [] → Same s s' os os' → Recorded sort u.length (calls (e ∷ h)) (held s')
    unfolding calls
    still e is same = subst (λ cs. Recorded sort u.length (cs ++ calls h) (held s')) (sym is) (subst (λ t. Recorded sort u.length (calls h) (held t)) (sym same.state) r)

    by_evidence : (x : R) → Evidence sort era u x s s' os os' → Recorded sort u.length (evidence x ∷ calls h) (held s')
    by_evidence x d = subst (Recorded sort u.length (evidence x ∷ calls h)) (sym d.values) (recorded_evidence sort u.length x (calls h) (held s) r)

    abbrev Took : ℕ → Result R Misread → Type 0
    Took v read = (x : R) × (if_valid (passes g.viewed sort era u v) read ≡ Some x) × Evidence sort era u x s s' os os'

    took : (v : ℕ) (read : Result R Misread) (qs : List Asks) (n : ℕ) (a : Delivered) → a.taken ≡ true → Took v read → Recorded sort u.length (calls (delivered v read qs n (Ok a) ∷ h)) (held s')
    took v read qs n a t m = one (delivered v read qs n (Ok a)) (evidence m.0) (rw (t, if_valid_read (passes g.viewed sort era u v) read m.0 m.1) refl) (by_evidence m.0 m.2)

    step : (e : Event R) → Step sort era u e s s' os os' → Recorded sort u.length (calls (e ∷ h)) (held s')
    step (updated read n (Ok a)) d = one (updated read n (Ok a)) (evidence d.1.0) (rw d.1.1 refl) (by_evidence d.1.0 d.1.2)
    step (updated read n (Err f)) d = still (updated read n (Err f)) refl d.1
    step (certified b read n (Ok a)) d = one (certified b read n (Ok a)) (verdict b d.1.0) (rw d.1.1 refl) (subst (Recorded sort u.length (verdict b d.1.0 ∷ calls h)) (sym d.1.2.values) (recorded_verdict sort u.length b d.1.0 (calls h) (held s) r))
    step (certified b read n (Err f)) d = still (certified b read n (Err f)) refl d.1
    step (replayed n (Ok a)) d = one (replayed n (Ok a)) marker refl (subst (Recorded sort u.length (marker ∷ calls h)) (sym d.1.changed.values) (recorded_marker sort u.length (calls h) (held s) r))
    step (replayed n (Err f)) d = still (replayed n (Err f)) refl d.1
    step (resolved p v k t (Ok true)) d = one (resolved p v k t (Ok true)) (request v k t) refl (subst (λ x. Recorded sort u.length (request v k t ∷ calls h) (held x)) (sym d.1) (recorded_request sort u.length v k t (calls h) (held s) r))
    step (resolved p v k t (Ok false)) d = still (resolved p v k t (Ok false)) refl (record { state = d.1; asks = d.2 })
    step (resolved p v k t (Err f)) d = still (resolved p v k t (Err f)) refl (record { state = d.1; asks = d.2 })
    step (delivered v read qs n (Ok a)) d = elim (cases_Bool a.taken) [
      | inl t ↦ took v read qs n a t (subst (λ b. If b (Took v read) (Same s s' os os')) t d.1)
      | inr f ↦ still (delivered v read qs n (Ok a)) (rw f refl) (subst (λ b. If b (Took v read) (Same s s' os os')) f d.1)
    ]
    step (delivered v read qs n (Err f)) d = still (delivered v read qs n (Err f)) refl d.1
    step (settled v k a) d = still (settled v k a) refl d.1
    step (produced v a) d = still (produced v a) refl d.1

  pub recorded_at : (h : List (Event R)) (s : State R g) (os : List Open) → Reached sort era u h s os → Recorded sort u.length (calls h) (held s)
  unfolding calls
  recorded_at _ s _ (made new fits) = subst (Recorded sort u.length []) (sym new) (recorded_made sort u.length)
  recorded_at _ t ps (then {h} {s} {os = os} e past d) = step h s t os ps (recorded_at h s os past) e d
