-- The law, by induction on how a point was reached.
use Rattle.std.proofs.Common.{◌≡◌, ℕ, ◌+◌, ◌<◌, ◌≤◌, Bool, true, false, not, ◌&&◌, eqb, List, [], ◌∷◌, ◌++◌, is_some, is_none, Some, Ok, Err, Result, Option, Decides, append_assoc, sym, refl, ap, ◌∙◌, subst, inl, inr, arith}
use Rattle.std.proofs.lemmas.Bool.{true≢false, both_ways, cases_Bool, and_parts, eqb-true, eq-eqb, ne_eqb}
use Rattle.std.proofs.lemmas.Bool.Decides.{same_from_decides}
use Rattle.std.proofs.lemmas.Grind.{common_steps}
use Rattle.board.proofs.Sorting.{lookup_placed, rises_placed}
use Rattle.board.specs.Asks.{same_kind, place, place_of}
use Rattle.board.specs.Boards.{opened, is_open, requested as opens}
use Rattle.board.specs.Sorting.{lookup, placed}
use Rattle.board.specs.declared.ask.Ask.{Ask as Asks}
use Rattle.board.specs.declared.ask.Ask.TheVariants.{Background, Ancestry}
use Rattle.board.specs.declared.open.Open.{Open}
use Rattle.effects.specs.declared.effect.Effect.{Effect}
use Rattle.effects.specs.declared.effect.Kind.{Kind as Ask}
use Rattle.effects.specs.declared.effect.Kind.TheVariants as ask
use Rattle.planning.proofs.Gaps.{gaps_exactly}
use Rattle.record.specs.declared.fault.Fault.{Fault as Misread}
use Rattle.record.specs.declared.kind.Kind.{Kind}
use Rattle.resolver.specs.Calls.{answer_of, If}
use Rattle.resolver.specs.Deliveries.{if_valid, delivery_test, tested, delivery_answer}
use Rattle.resolver.specs.declared.fault.Fault.{Fault}
use Rattle.resolver.specs.declared.outcome.Delivered.{Delivered}
use Rattle.state.specs.Answers.{refused_if, too_few, if_read, evidence_answer, verdict_answer}
use Rattle.state.specs.declared.fault.Fault.TheVariants.{TooFewPlaces}
use Rattle.state.proofs.Sounds.{Rises as Rise}
use Rattle.state.specs.Laws.{is_gap, EveryGapAsked}
use Rattle.state.specs.Laws as states
use Rattle.lawful.specs.Lawful.{Lawful}
use Rattle.state.specs.Settled.{settled as holds_settled}
use Rattle.state.specs.States.{held}
use Rattle.state.specs.declared.state.State.{State}
use Rattle.state.proofs.Facts.{rises_of}
use Rattle.store.specs.Fresh.{fresh}
use Rattle.store.specs.Values.{Values, finalized as finalized_in, is_covered}
use Rattle.views.specs.declared.Viewable as viewable
use Rattle.history.specs.Calls.{Call, evidence, verdict, marker, request, some, is_marker, is_request, is_open_request, requested, first_seat, target, settles, needed, serves}
use Rattle.history.specs.Calls as words
use Rattle.history.specs.Events.{Event, updated, certified, replayed, resolved, delivered, settled, produced, calls, accepted, Use, Answers, AllAnswer}
use Rattle.history.specs.Promises.{Promises, Law, Point, if_asked}
use Rattle.history.specs.Uses.{Reached, made, then, Step, Same, Changed, Evidence, Verdict, Marker, Suits, passes}
use Rattle.history.proofs.Asks.{Tells, Asked, asked_after, wanted}
use Rattle.history.proofs.Boards.{ancestry_rank}
use Rattle.history.proofs.Recorded.{Recorded, recorded_made, recorded_evidence, recorded_verdict, recorded_marker, recorded_request}
use Rattle.history.proofs.Ruled.{evidence_alike, verdict_alike, marker_alike, request_alike, delivery_alike}
use Rattle.history.proofs.Staying.{settles_stays, serves_stays}
use Rattle.history.proofs.Tells.{tells_evidence, tells_verdict, tells_marker}
use Rattle.history.proofs.Told.{covered_alike, settled_alike, served_alike}

pub same_ask : (j k : Ask) → same_kind j k ≡ true → j ≡ k
same_ask ask.Nullification ask.Nullification t = refl
same_ask ask.Nullification ask.Notarization t = absurd (true≢false (sym t))
same_ask ask.Notarization ask.Nullification t = absurd (true≢false (sym t))
same_ask ask.Notarization ask.Notarization t = refl

-- asks of one place are the same
one_place : (j k : Ask) (w v : ℕ) → place w (Ancestry j) ≡ place v (Ancestry k) → (same_kind j k && eqb w v) ≡ true
one_place ask.Nullification ask.Nullification w v e = eq-eqb w v (omega (arith, e))
one_place ask.Nullification ask.Notarization w v e = absurd (omega (arith, e))
one_place ask.Notarization ask.Nullification w v e = absurd (omega (arith, e))
one_place ask.Notarization ask.Notarization w v e = eq-eqb w v (omega (arith, e))

no_request : {R : Type 0} (k : Ask) (v : ℕ) (c : Call R) → is_request k v c ≡ false → is_open_request k v c ≡ false
no_request k v (evidence x) f = refl
no_request k v (verdict b x) f = refl
no_request k v marker f = refl
no_request k v (request w j t) f = grind (arith, common_steps)

-- a request that names no seat is a request
open_is_request : {R : Type 0} (k : Ask) (v : ℕ) (h : List (Call R)) → some (is_open_request k v) h ≡ true → requested k v h ≡ true
unfolding some
open_is_request k v [] t = absurd (true≢false (sym t))
open_is_request k v (evidence x ∷ h) t = open_is_request k v h t
open_is_request k v (verdict b x ∷ h) t = open_is_request k v h t
open_is_request k v (marker ∷ h) t = open_is_request k v h t
open_is_request k v (request w j a ∷ h) t = let i = open_is_request k v h in grind (arith, common_steps)

-- what the board has open, by the accepted calls
abbrev OpenBy : {R : Type 0} {g : viewable.Ghosts R} → ℕ → List (Call R) → Values R g → List Open → Type 0
OpenBy L h s os = Asked L (λ k v. requested k v h) (λ k v. target k v h) s os

module _ {R : Type 0} {g : viewable.Ghosts R} (sort : R → Kind) (L : ℕ) (positive : 0 < L) where
  -- a call that is no request asks for nothing
  same_wishes : (c : Call R) → ((k : Ask) (v : ℕ) → is_request k v c ≡ false) → (h : List (Call R)) (s : Values R g) (os : List Open) → OpenBy L h s os → OpenBy L (c ∷ h) s os
  unfolding some first_seat
  same_wishes c none h s os o = record {
    up = o.up;
    background = o.background;
    ancestry = λ k v. o.ancestry k v ∙ (let n = none k v in let m = no_request k v c in grind (arith, common_steps));
  }

  module _ (w : ℕ) (j : Ask) (t : Option ℕ) (h : List (Call R)) (s : Values R g) (os : List Open) (unsettled : holds_settled L j w s ≡ false) (o : OpenBy L h s os) where
    -- what is found afterwards of an ask
    abbrev Found : List Open → Ask → ℕ → Type 0
    Found os' k v = lookup (place v (Ancestry k)) os' ≡ if_asked (requested k v (request w j t ∷ h) && not (holds_settled L k v s)) v k (target k v (request w j t ∷ h))

    -- it is enough to know of the ask itself, and that every other is found as before
    found_each : (os' : List Open) → Found os' j w → ((k : Ask) (v : ℕ) → is_request {R = R} k v (request w j t) ≡ false → lookup (place v (Ancestry k)) os' ≡ lookup (place v (Ancestry k)) os) → (k : Ask) (v : ℕ) → Found os' k v
    unfolding some first_seat
    found_each os' here others k v = elim (cases_Bool (is_request {R = R} k v (request w j t))) [
      | inl this ↦ let p = and_parts (same_kind j k) (eqb w v) this in subst (λ i. Found os' i v) (same_ask j k p.0) (subst (λ u. Found os' j u) (eqb-true w v p.1) here)
      | inr other ↦ others k v other ∙ o.ancestry k v ∙ (let a = other in let m = no_request {R = R} k v (request w j t) in grind (arith, common_steps))
    ]

    this_request : is_request {R = R} j w (request w j t) ≡ true
    this_request = own j (eq-eqb w w refl)
      where
        own : (k : Ask) → eqb w w ≡ true → (same_kind k k && eqb w w) ≡ true
        own ask.Nullification e = e
        own ask.Notarization e = e

    -- what a request leaves open
    request_opens : OpenBy L (request w j t ∷ h) s (opens w j t os)
    unfolding some first_seat
    request_opens = elim (cases_Bool (is_open w (Ancestry j) os && not (is_none t))) [
      | inl stays ↦ rw stays (record {
        up = o.up;
        background = o.background;
        ancestry = found_each os (o.ancestry j w ∙ (let a = o.ancestry j w in let b = this_request in let n = open_is_request j w h in grind (arith, common_steps))) (λ k v other. refl);
      })
      | inr goes ↦
          let a' = opened w (Ancestry j) t in
          rw goes (record {
            up = rises_placed a' os o.up;
            background = λ v. lookup_placed (place v Background) a' os ∙ rw (ne_eqb (place_of a') (place v Background) (λ e. omega (arith, e, ancestry_rank j))) (o.background v);
            ancestry = found_each (placed a' os) (lookup_placed (place w (Ancestry j)) a' os ∙ rw (eq-eqb (place_of a') (place w (Ancestry j)) refl) (let a = o.ancestry j w in let b = this_request in let n = open_is_request j w h in grind (arith, common_steps))) (λ k v other. lookup_placed (place v (Ancestry k)) a' os ∙ rw (ne_eqb (place_of a') (place v (Ancestry k)) (λ e. absurd (both_ways _ other (one_place j k w v e)))) refl);
          })
    ]

  -- the views that a state wants are those that are needed
  gap_alike : (h : List (Call R)) (s : Values R g) → Recorded sort L h s → finalized_in s ≤ s.floor → (v : ℕ) → is_gap L v s ≡ words.is_gap g.viewed sort L v h
  gap_alike h s r low v =
      let exact = gaps_exactly L positive (is_covered L s) (s.floor + 1) s.current v in
      let c = covered_alike sort L positive h s r v in
      let f = r.floor in
      let n = r.current in
      let here : Decides (is_gap L v s) (words.is_gap g.viewed sort L v h ≡ true) = (
        λ gap. let e = exact.0 gap in let a = e.0.above in let b = e.0.below in let d = e.0.first in let x = e.1 in grind (arith, common_steps),
        λ w. exact.1 (record { above = grind (arith, common_steps); below = grind (arith, common_steps); first = grind (arith, common_steps) }, grind (arith, common_steps)),
      ) in
      let there : Decides (words.is_gap g.viewed sort L v h) (words.is_gap g.viewed sort L v h ≡ true) = (λ w. w, λ w. w) in
      same_from_decides (is_gap L v s) (words.is_gap g.viewed sort L v h) here there

  wanted_alike : (h : List (Call R)) (s : Values R g) → Recorded sort L h s → finalized_in s ≤ s.floor → (v : ℕ) → wanted L v s ≡ needed g.viewed sort L v h
  wanted_alike h s r low v =
      let gap = gap_alike h s r low v in
      let c = covered_alike sort L positive h s r v in
      let f = r.floor in
      let x = r.failed v in
      let t = r.top in
      grind (arith, common_steps)

calls_append : {R : Type 0} (later earlier : List (Event R)) → calls (later ++ earlier) ≡ calls later ++ calls earlier
unfolding calls
calls_append [] earlier = refl
calls_append (e ∷ later) earlier = ap (λ cs. accepted e ++ cs) (calls_append later earlier) ∙ sym (append_assoc (accepted e) (calls later) (calls earlier))

-- at the making nothing is asked for and nothing is wanted
nothing_open : {R : Type 0} {g : viewable.Ghosts R} {L : ℕ} → OpenBy L [] (fresh {R = R} {g = g}) []
unfolding fresh some first_seat lookup
nothing_open = record { up = tt; background = λ v. refl; ancestry = λ k v. refl }

module _ {R : Type 0} {g : viewable.Ghosts R} (sort : R → Kind) (era : R → ℕ) (u : Use R) where
  -- what is carried from point to point
  pub record At (h : List (Event R)) (s : State R g) (os : List Open) : Type 0 where
    recorded : Recorded sort u.length (calls h) (held s)
    open' : OpenBy u.length (calls h) (held s) os
    pub suits : Suits u s
    answers : AllAnswer g.viewed sort era u h

  module _ (s : State R g) (fits : Suits u s) where
    positive : 0 < u.length
    positive = omega (arith, s.store.term_length.positive, fits.length)

    lawful : Lawful u.length (held s)
    lawful = subst (λ n. Lawful n (held s)) fits.length s.lawful

  -- only the marker ends a replay
  goes_on : (c : Call R) (h : List (Call R)) (s t : Values R g) → is_marker c ≡ false → Recorded sort u.length h s → Recorded sort u.length (c ∷ h) t → t.replaying ≡ false → s.replaying ≡ true → ⊥
  unfolding some
  goes_on c h s t unmarked r r' over on = let a = r.replaying in let b = r'.replaying in grind (arith, common_steps)

  -- a call that changed the state
  changed : (c : Call R) (h : List (Call R)) (vs : Values R g) (es : List Effect) (s s' : State R g) (os os' : List Open)
      → Suits u s → Recorded sort u.length h (held s) → OpenBy u.length h (held s) os
      → ((k : Ask) (v : ℕ) → is_request k v c ≡ false) → Recorded sort u.length (c ∷ h) vs
      → Changed vs es s s' os os' → (Lawful u.length (held s') → held s' ≡ vs → Tells u.length (held s) (held s') es) → ((held s').replaying ≡ false → EveryGapAsked u.length (held s) (held s') es)
      → Suits u s' × Recorded sort u.length (c ∷ h) (held s') × OpenBy u.length (c ∷ h) (held s') os'
  changed c h vs es s s' os os' fits r o none next d tells every =
      let fits' : Suits u s' = record { length = d.fixed.term ∙ fits.length; epoch = d.fixed.epoch ∙ fits.epoch; fit = d.fixed.fits ∙ fits.fit } in
      let now' = subst (Recorded sort u.length (c ∷ h)) (sym d.values) next in
      let ok = lawful s' fits' in
      let kept = subst (λ n. states.Promises n (held s) (held s') es) fits.length d.promises in
      let all = asked_after u.length (positive s fits) (held s) (held s') es (tells ok d.values) kept.no_gap_unasked every kept.settled_only_grows ok (λ k v. requested k v h) (λ k v. target k v h) os o in
      (fits', now', same_wishes sort u.length (positive s fits) c none h (held s') os' (subst (OpenBy u.length h (held s')) (sym d.asks) all))

  -- the next point, after a call that changed nothing, and after one that was accepted
  still : (e : Event R) (h : List (Event R)) (s s' : State R g) (os os' : List Open) → accepted e ≡ [] → At h s os → Answers g.viewed sort era u e (calls h) → Same s s' os os' → At (e ∷ h) s' os'
  unfolding calls AllAnswer
  still e h s s' os os' none now' a same =
      let as_before : calls (e ∷ h) ≡ calls h = ap (λ cs. cs ++ calls h) none in
      rw (same.state, same.asks) (record { recorded = rw as_before now'.recorded; open' = rw as_before now'.open'; suits = now'.suits; answers = (a, now'.answers) })

  next : (e : Event R) (c : Call R) (h : List (Event R)) (s s' : State R g) (os os' : List Open) → accepted e ≡ c ∷ [] → At h s os → Answers g.viewed sort era u e (calls h) → Suits u s' × Recorded sort u.length (c ∷ calls h) (held s') × OpenBy u.length (c ∷ calls h) (held s') os' → At (e ∷ h) s' os'
  unfolding calls AllAnswer
  next e c h s s' os os' one now' a d =
      let one_more : calls (e ∷ h) ≡ c ∷ calls h = ap (λ cs. cs ++ calls h) one in
      record { recorded = rw one_more d.1; open' = rw one_more d.2; suits = d.0; answers = (a, now'.answers) }

  module _ (h : List (Event R)) (s s' : State R g) (os os' : List Open) (now' : At h s os) where
    L : ℕ
    L = u.length

    more : 0 < u.length
    more = positive s now'.suits

    -- what evidence leaves
    after_evidence : (x : R) → Evidence sort era u x s s' os os' → Suits u s' × Recorded sort u.length (evidence x ∷ calls h) (held s') × OpenBy u.length (evidence x ∷ calls h) (held s') os'
    after_evidence x d =
        let next' = recorded_evidence sort u.length x (calls h) (held s) now'.recorded in
        changed (evidence x) (calls h) _ _ s s' os os' now'.suits now'.recorded now'.open' (λ k v. refl) next' d
        (λ ok is. tells_evidence sort u.length more (calls h) (held s) (lawful s now'.suits) now'.recorded x (held s') (subst (Recorded sort u.length (evidence x ∷ calls h)) (sym is) next') ok is)
        (λ over on. absurd (goes_on (evidence x) (calls h) (held s) (held s') refl now'.recorded (subst (Recorded sort u.length (evidence x ∷ calls h)) (sym d.values) next') over on))

    after_verdict : (b : Bool) (x : R) → Verdict sort era u b x s s' os os' → Suits u s' × Recorded sort u.length (verdict b x ∷ calls h) (held s') × OpenBy u.length (verdict b x ∷ calls h) (held s') os'
    after_verdict b x d =
        let next' = recorded_verdict sort u.length b x (calls h) (held s) now'.recorded in
        changed (verdict b x) (calls h) _ _ s s' os os' now'.suits now'.recorded now'.open' (λ k v. refl) next' d
        (λ ok is. tells_verdict sort u.length more (calls h) (held s) (lawful s now'.suits) now'.recorded x (held s') ok b (subst (Recorded sort u.length (verdict b x ∷ calls h)) (sym is) next') is)
        (λ over on. absurd (goes_on (verdict b x) (calls h) (held s) (held s') refl now'.recorded (subst (Recorded sort u.length (verdict b x ∷ calls h)) (sym d.values) next') over on))

    after_marker : Marker sort era u s s' os os' → Suits u s' × Recorded sort u.length (marker ∷ calls h) (held s') × OpenBy u.length (marker ∷ calls h) (held s') os'
    after_marker d =
        changed marker (calls h) _ _ s s' os os' now'.suits now'.recorded now'.open' (λ k v. refl) (recorded_marker sort u.length (calls h) (held s) now'.recorded) d.changed
        (λ ok is. tells_marker sort u.length more (calls h) (held s) (lawful s now'.suits) now'.recorded (held s') ok is)
        (λ over. d.every_gap_asked)

    -- what is answered
    up : Rise (held s)
    up = rises_of s

    updated_answers : (read : Result R Misread) (n : ℕ) (a : Result (Unit {0}) Fault) → a ≡ answer_of (refused_if (too_few u.fit n) TooFewPlaces (if_read read (λ x. evidence_answer u.length (sort x) x (held s)))) → Answers g.viewed sort era u (updated read n a) (calls h)
    updated_answers (Err f) n a e = e
    updated_answers (Ok x) n a e = e ∙ ap (λ r. answer_of (refused_if (too_few u.fit n) TooFewPlaces r)) (evidence_alike sort u.length more (calls h) (held s) up now'.recorded x (recorded_evidence sort u.length x (calls h) (held s) now'.recorded))

    certified_answers : (b : Bool) (read : Result R Misread) (n : ℕ) (a : Result (Unit {0}) Fault) → a ≡ answer_of (refused_if (too_few u.fit n) TooFewPlaces (if_read read (λ x. verdict_answer u.length b (sort x) (g.viewed x) (held s)))) → Answers g.viewed sort era u (certified b read n a) (calls h)
    certified_answers b (Err f) n a e = e
    certified_answers b (Ok x) n a e = e ∙ ap (λ r. answer_of (refused_if (too_few u.fit n) TooFewPlaces r)) (verdict_alike sort u.length more (calls h) (held s) up now'.recorded b x)

    -- the record of a delivery that was taken is the one that was read
    if_valid_read : (valid : R → Bool) (read : Result R Misread) (x : R) → if_valid valid read ≡ Some x → read ≡ Ok x
    if_valid_read valid (Ok y) x e = elim (cases_Bool (valid y)) [ inl t ↦ (let f = e in grind (arith, common_steps)) | inr f ↦ (let w = e in grind (arith, common_steps)) ]
    if_valid_read valid (Err f) x e = (let w = e in grind (arith, common_steps))

    -- what was delivered passed, and was taken
    abbrev Took : ℕ → Result R Misread → Type 0
    Took v read = (x : R) × (if_valid (passes g.viewed sort era u v) read ≡ Some x) × Evidence sort era u x s s' os os'

    delivered_answers : (v : ℕ) (read : Result R Misread) (qs : List Asks) (n : ℕ) (a : Result Delivered Fault) → a ≡ tested (delivery_test u.fit n qs) (delivery_answer u.length sort qs v (passes g.viewed sort era u v) read (held s)) → Answers g.viewed sort era u (delivered v read qs n a) (calls h)
    delivered_answers v read qs n a e = e ∙ ap (tested (delivery_test u.fit n qs)) (delivery_alike sort u.length more (calls h) (held s) up now'.recorded (passes g.viewed sort era u v) qs v read)

    took : (v : ℕ) (read : Result R Misread) (qs : List Asks) (n : ℕ) (a : Delivered) → a.taken ≡ true → Answers g.viewed sort era u (delivered v read qs n (Ok a)) (calls h) → Took v read → At (delivered v read qs n (Ok a) ∷ h) s' os'
    took v read qs n a t answers m = next (delivered v read qs n (Ok a)) (evidence m.0) h s s' os os' (rw (t, if_valid_read (passes g.viewed sort era u v) read m.0 m.1) refl) now' answers (after_evidence m.0 m.2)

    step_at : (e : Event R) → Step sort era u e s s' os os' → At (e ∷ h) s' os'
    step_at (updated read n (Ok a)) d =
        let m = d.1 in
        next (updated read n (Ok a)) (evidence m.0) h s s' os os' (rw m.1 refl) now' (updated_answers read n (Ok a) d.0) (after_evidence m.0 m.2)
    step_at (updated read n (Err f)) d = still (updated read n (Err f)) h s s' os os' refl now' (updated_answers read n (Err f) d.0) d.1
    step_at (certified b read n (Ok a)) d =
        let m = d.1 in
        next (certified b read n (Ok a)) (verdict b m.0) h s s' os os' (rw m.1 refl) now' (certified_answers b read n (Ok a) d.0) (after_verdict b m.0 m.2)
    step_at (certified b read n (Err f)) d = still (certified b read n (Err f)) h s s' os os' refl now' (certified_answers b read n (Err f) d.0) d.1
    step_at (replayed n (Ok a)) d = next (replayed n (Ok a)) marker h s s' os os' refl now' (d.0 ∙ ap (λ r. answer_of (refused_if (too_few u.fit n) TooFewPlaces r)) (marker_alike sort u.length more (calls h) (held s) up now'.recorded)) (after_marker d.1)
    step_at (replayed n (Err f)) d = still (replayed n (Err f)) h s s' os os' refl now' (d.0 ∙ ap (λ r. answer_of (refused_if (too_few u.fit n) TooFewPlaces r)) (marker_alike sort u.length more (calls h) (held s) up now'.recorded)) d.1
    step_at (resolved p v k t (Ok true)) d =
        let free : holds_settled u.length k v (held s) ≡ false = let e = d.0 in grind (arith, common_steps) in
        next (resolved p v k t (Ok true)) (request v k t) h s s' os os' refl now' (d.0 ∙ request_alike sort u.length more (calls h) (held s) up now'.recorded os now'.open' p v k)
        (rw (d.1, d.2) (now'.suits, recorded_request sort u.length v k t (calls h) (held s) now'.recorded, request_opens sort u.length more v k t (calls h) (held s) os free now'.open'))
    step_at (resolved p v k t (Ok false)) d = still (resolved p v k t (Ok false)) h s s' os os' refl now' (d.0 ∙ request_alike sort u.length more (calls h) (held s) up now'.recorded os now'.open' p v k) (record { state = d.1; asks = d.2 })
    step_at (resolved p v k t (Err f)) d = still (resolved p v k t (Err f)) h s s' os os' refl now' (d.0 ∙ request_alike sort u.length more (calls h) (held s) up now'.recorded os now'.open' p v k) (record { state = d.1; asks = d.2 })
    step_at (delivered v read qs n (Ok a)) d = elim (cases_Bool a.taken) [
      | inl t ↦
          took v read qs n a t (delivered_answers v read qs n (Ok a) d.0) (subst (λ b. If b (Took v read) (Same s s' os os')) t d.1)
      | inr f ↦ still (delivered v read qs n (Ok a)) h s s' os os' (rw f refl) now' (delivered_answers v read qs n (Ok a) d.0) (subst (λ b. If b (Took v read) (Same s s' os os')) f d.1)
    ]
    step_at (delivered v read qs n (Err f)) d = still (delivered v read qs n (Err f)) h s s' os os' refl now' (delivered_answers v read qs n (Err f) d.0) d.1
    step_at (settled v k a) d = still (settled v k a) h s s' os os' refl now' (d.0 ∙ settled_alike sort u.length more (calls h) (held s) now'.recorded k v) d.1
    step_at (produced v a) d = still (produced v a) h s s' os os' refl now' (d.0 ∙ served_alike sort u.length more (calls h) (held s) now'.recorded v up.nullifications) d.1

  -- every point is one
  pub at_each : (h : List (Event R)) (s : State R g) (os : List Open) → Reached sort era u h s os → At h s os
  unfolding calls AllAnswer
  at_each _ s _ (made new fits) = record {
    recorded = rw new (recorded_made sort u.length);
    open' = rw new nothing_open;
    suits = fits;
    answers = tt;
  }
  at_each _ t ps (then {h} {s} {os = os} e past d) = step_at h s t os ps (at_each h s os past) e d

  promised : (h : List (Event R)) (s : State R g) (os : List Open) → At h s os → Promises sort era u h s os
  promised h s os a =
      let pos = positive s a.suits in
      let ok = lawful s a.suits in
      record {
        settled_exactly_when_recorded = λ k v. settled_alike sort u.length pos (calls h) (held s) a.recorded k v;
        settled_views_stay = λ k v later earlier e t. subst (λ cs. settles g.viewed sort u.length k v cs ≡ true) (sym (ap calls e ∙ calls_append later earlier)) (settles_stays g.viewed sort u.length pos k v (calls later) (calls earlier) t);
        served_exactly_as_recorded = λ v. served_alike sort u.length pos (calls h) (held s) a.recorded v (rises_of s).nullifications;
        served_views_stay = λ v later earlier e q t. subst (λ cs. is_some (serves g.viewed sort u.length v cs) ≡ true) (sym (ap calls e ∙ calls_append later earlier)) (serves_stays g.viewed sort u.length pos v (calls later) (calls earlier) q t);
        ancestry_asks_are_unsettled_requests = λ k v. a.open'.ancestry k v ∙ ap (λ b. if_asked (requested k v (calls h) && not b) v k (target k v (calls h))) (settled_alike sort u.length pos (calls h) (held s) a.recorded k v);
        background_asks_are_needed_views = λ v. a.open'.background v ∙ (let w = wanted_alike sort u.length pos (calls h) (held s) a.recorded ok.sound.floor_finalized v in let m = a.recorded.replaying in grind (arith, common_steps));
        asks_rise = a.open'.up;
        every_answer_by_the_rules = a.answers;
      }

pub law : {R : Type 0} (g : viewable.Ghosts R) (sort : R → Kind) (era : R → ℕ) → Law g sort era
law g sort era u h s os past = promised sort era u h s os (at_each sort era u h s os past)

pub point : {R : Type 0} {g : viewable.Ghosts R} (sort : R → Kind) (era : R → ℕ) (u : Use R) (h : List (Event R)) (s : State R g) (os : List Open) → Reached sort era u h s os → Point sort era u h s os
point {g = g} sort era u h s os past = record { reached = past; promises = law g sort era u h s os past }
