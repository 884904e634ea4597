-- Calls that say the same end alike.
use Rattle.std.proofs.Common.{◌≡◌, ℕ, ◌+◌, ◌*◌, ◌/◌, ◌%◌, ◌<◌, Bool, true, false, not, ◌&&◌, ◌||◌, ◌⊎◌, ltb, leb, List, [], ◌∷◌, ◌++◌, is_some, None, Result, Option, sym, refl, ap, ◌∙◌, subst, inl, inr, arith}
use Rattle.std.proofs.lemmas.Bool.{cases_Bool, cases_eq, cases_lt, lt-ltb, le-ltb, le-leb}
use Rattle.std.proofs.lemmas.Grind.{common_steps}
use Rattle.board.proofs.Sorting.{same_found}
use Rattle.board.specs.Asks.{place}
use Rattle.board.specs.Sorting.{lookup}
use Rattle.board.specs.declared.ask.Ask.TheVariants.{Background, Ancestry}
use Rattle.board.specs.declared.open.Open.{Open}
use Rattle.effects.specs.declared.effect.Kind.{Kind as Ask}
use Rattle.effects.specs.declared.effect.Kind.TheVariants as ask
use Rattle.queue.specs.Queues.{Queue}
use Rattle.queue.specs.declared.message.Message.{Message}
use Rattle.record.specs.declared.fault.Fault.{Fault as Misread}
use Rattle.record.specs.declared.kind.Kind.{Kind}
use Rattle.state.specs.declared.state.State.{State}
use Rattle.terms.proofs.Laws.{end_0}
use Rattle.terms.specs.Terms.{end}
use Rattle.views.specs.declared.Viewable as viewable
use Rattle.history.specs.Calls.{Call, evidence, verdict, marker, request, some, highest, finalized, floor, requested, target, passed, failed, covered, settles, needed, serves, last_finalization, last_passed, highest_cover}
use Rattle.history.specs.Events.{Event, calls, Use}
use Rattle.history.specs.Promises.{Promises, if_asked}
use Rattle.history.proofs.Counted.{finalized_low}
use Rattle.history.proofs.Uses.{law, at_each}
use Rattle.both_ways.specs.Ends.{Alike, Emptied, EndAlike}
use Rattle.both_ways.specs.Running.{all_out, Ran, FreshEndAlike}
use Rattle.both_ways.specs.Runs.{none_called, Through, nothing_offered, said, VerdictsAgree}
use Rattle.both_ways.proofs.Called.{all_called, all_sound}
use Rattle.both_ways.proofs.Queued.{inside, through}
use Rattle.both_ways.proofs.Same.{Same, same_sym, same_trans, same_settles}

module _ {R : Type 0} (viewed : R → ℕ) (sort : R → Kind) (L : ℕ) (positive : 0 < L) where
  -- which records there are, by what was said
  kept_if_finalized : (h : List (Call R)) → is_some (last_finalization viewed sort h) ≡ ltb 0 (finalized viewed sort h)
  unfolding last_finalization highest
  kept_if_finalized [] = refl
  kept_if_finalized (evidence x ∷ h) = let i = kept_if_finalized h in grind (arith, common_steps)
  kept_if_finalized (verdict b x ∷ h) = let i = kept_if_finalized h in grind (arith, common_steps)
  kept_if_finalized (marker ∷ h) = let i = kept_if_finalized h in grind (arith, common_steps)
  kept_if_finalized (request v k t ∷ h) = let i = kept_if_finalized h in grind (arith, common_steps)

  last_if_passed : (v : ℕ) (h : List (Call R)) → (passed viewed sort v h ≡ true → failed viewed sort v h ≡ false) → is_some (last_passed viewed sort v h) ≡ passed viewed sort v h
  unfolding last_passed some
  last_if_passed v [] agree = refl
  last_if_passed v (evidence x ∷ h) agree = last_if_passed v h agree
  last_if_passed v (verdict b x ∷ h) agree =
      let i = last_if_passed v h (λ t. (let e = agree (grind (arith, common_steps)) in grind (arith, common_steps))) in
      let a = agree in
      grind (arith, common_steps)
  last_if_passed v (marker ∷ h) agree = last_if_passed v h agree
  last_if_passed v (request w k t ∷ h) agree = last_if_passed v h agree

  found_if_covered : (v : ℕ) (h : List (Call R)) → is_some (highest_cover viewed sort L v h) ≡ covered viewed sort L v h
  unfolding highest_cover some
  found_if_covered v [] = refl
  found_if_covered v (evidence x ∷ h) = let i = found_if_covered v h in grind (arith, common_steps)
  found_if_covered v (verdict b x ∷ h) = let i = found_if_covered v h in grind (arith, common_steps)
  found_if_covered v (marker ∷ h) = let i = found_if_covered v h in grind (arith, common_steps)
  found_if_covered v (request w k t ∷ h) = let i = found_if_covered v h in grind (arith, common_steps)

  -- whether something is served for a view
  abbrev served_if : List (Call R) → ℕ → Bool
  served_if h v =
      (leb v (finalized viewed sort h) && ltb 0 (finalized viewed sort h))
      || ((ltb (finalized viewed sort h) v && passed viewed sort v h)
      || ((ltb (finalized viewed sort h) (end L v) && covered viewed sort L v h)
      || (leb v (floor viewed sort h) && (ltb (finalized viewed sort h) (floor viewed sort h) && passed viewed sort (floor viewed sort h) h))))

  -- verdicts on what is not finalized agree
  abbrev pub AgreeAbove : List (Call R) → Type 0
  AgreeAbove h = (v : ℕ) → finalized viewed sort h < v → passed viewed sort v h ≡ true → failed viewed sort v h ≡ false

  last_above : (h : List (Call R)) → AgreeAbove h → (v : ℕ) → (ltb (finalized viewed sort h) v && is_some (last_passed viewed sort v h)) ≡ (ltb (finalized viewed sort h) v && passed viewed sort v h)
  last_above h agree v = elim (cases_lt (finalized viewed sort h) v) [ inl past ↦ ap (λ b. ltb (finalized viewed sort h) v && b) (last_if_passed v h (agree v past)) | inr low ↦ rw (le-ltb (finalized viewed sort h) v low) refl ]

  serves_if : (h : List (Call R)) → AgreeAbove h → (v : ℕ) → is_some (serves viewed sort L v h) ≡ served_if h v
  unfolding serves
  serves_if h agree v =
      let a = kept_if_finalized h in
      let b = last_above h agree v in
      let c = found_if_covered v h in
      let d = last_above h agree (floor viewed sort h) in
      grind (arith, common_steps)

  module _ (h i : List (Call R)) (s : Same viewed sort L h i) where
    needed_alike : (v : ℕ) → needed viewed sort L v i ≡ needed viewed sort L v h
    needed_alike v =
        let low = finalized_low viewed sort h in
        let f = s.floor in
        let c = s.current in
        let cov = s.covered v in
        let bad = s.failed v in
        grind (arith, common_steps)

    pass_alike : (v : ℕ) → (ltb (finalized viewed sort h) v && passed viewed sort v i) ≡ (ltb (finalized viewed sort h) v && passed viewed sort v h)
    pass_alike v = elim (cases_lt (finalized viewed sort h) v) [ inl past ↦ ap (λ b. ltb (finalized viewed sort h) v && b) (s.passed v past) | inr low ↦ rw (le-ltb (finalized viewed sort h) v low) refl ]

    floor_alike : (ltb (finalized viewed sort h) (floor viewed sort h) && passed viewed sort (floor viewed sort h) i) ≡ (ltb (finalized viewed sort h) (floor viewed sort h) && passed viewed sort (floor viewed sort h) h)
    floor_alike = pass_alike (floor viewed sort h)

    -- a cover at or below a finalized view serves nothing that finality does not
    cover_part : (v : ℕ) →
        ((leb v (finalized viewed sort h) && ltb 0 (finalized viewed sort h)) || ((ltb (finalized viewed sort h) v && passed viewed sort v h) || ((ltb (finalized viewed sort h) (end L v) && covered viewed sort L v i) || (leb v (floor viewed sort h) && (ltb (finalized viewed sort h) (floor viewed sort h) && passed viewed sort (floor viewed sort h) h)))))
        ≡ served_if h v
    cover_part v = elim (cases_lt (finalized viewed sort h) v) [
      | inl past ↦ rw (s.covered v past) refl
      | inr low ↦ elim (cases_eq (finalized viewed sort h) 0) [
        | inl none ↦ (let z : end L v ≡ 0 = ap (end L) (omega (arith, low, none)) ∙ end_0 L in let shut : ltb (finalized viewed sort h) (end L v) ≡ false = le-ltb (finalized viewed sort h) (end L v) (omega (arith, z)) in rw shut refl)
        | inr some' ↦ rw (le-leb v (finalized viewed sort h) low, lt-ltb 0 (finalized viewed sort h) (omega (arith, some'))) refl
      ]
    ]

    served_alike : AgreeAbove h → AgreeAbove i → (v : ℕ) → is_some (serves viewed sort L v i) ≡ is_some (serves viewed sort L v h)
    served_alike agree agree' v = serves_if i agree' v ∙ rw (s.top, s.floor) (rw (pass_alike v, floor_alike) (cover_part v)) ∙ sym (serves_if h agree v)

abbrev queue_with : {P : Type 0} → Option (Message P) → List (Message P) → Queue P
queue_with f ns = record { finalization = f; messages = ns }

-- every place is that of an ask
same_places : (os ps : List Open) → ((v : ℕ) → lookup (place v Background) ps ≡ lookup (place v Background) os) → ((k : Ask) (v : ℕ) → lookup (place v (Ancestry k)) ps ≡ lookup (place v (Ancestry k)) os) → (n : ℕ) → lookup n ps ≡ lookup n os
same_places os ps behind ahead n = elim (cases_eq (n % 3) 0) [
  | inl zero' ↦ at (3 * (n / 3) + 0) (omega (arith, zero')) (behind (n / 3))
  | inr more ↦ elim (cases_eq (n % 3) 1) [
    | inl one ↦ at (3 * (n / 3) + 1) (omega (arith, one)) (ahead ask.Nullification (n / 3))
    | inr two ↦ at (3 * (n / 3) + 2) (omega (arith, more, two)) (ahead ask.Notarization (n / 3))
  ]
]
  where
    at : (m : ℕ) → n ≡ m → lookup m ps ≡ lookup m os → lookup n ps ≡ lookup n os
    at m e here = subst (λ k. lookup k ps ≡ lookup k os) (sym e) here

module _ {R P : Type 0} (g : viewable.Ghosts R) (read : P → Result R Misread) (sort : R → Kind) (era : R → ℕ) where
  -- two uses whose accepted calls say the same
  alike : (L : ℕ) (u w : Use R) (h i : List (Event R)) (s t : State R g) (os ps : List Open) → u.length ≡ L → w.length ≡ L → (positive : 0 < L) → Promises sort era u h s os → Promises sort era w i t ps → Same g.viewed sort L (calls h) (calls i) → AgreeAbove g.viewed sort L positive (calls h) → AgreeAbove g.viewed sort L positive (calls i) → Alike L s t os ps
  alike L u w h i s t os ps a b positive p q same agree agree' = record {
    open_asks = same_found os ps p.asks_rise q.asks_rise (λ n. sym (same_places os ps behind ahead n));
    settled_views = λ k v. let x = rw a at (p.settled_exactly_when_recorded k v) in let y = rw b at (q.settled_exactly_when_recorded k v) in x ∙ sym (same_settles g.viewed sort L (calls h) (calls i) same k v) ∙ sym y;
    served_views = λ v. let x = rw a at (p.served_exactly_as_recorded v) in let y = rw b at (q.served_exactly_as_recorded v) in ap is_some x ∙ sym (served_alike g.viewed sort L positive (calls h) (calls i) same agree agree' v) ∙ sym (ap is_some y);
  }
    where
      behind : (v : ℕ) → lookup (place v Background) ps ≡ lookup (place v Background) os
      behind v = let x = rw a at (p.background_asks_are_needed_views v) in let y = rw b at (q.background_asks_are_needed_views v) in y ∙ rw (same.marked, needed_alike g.viewed sort L positive (calls h) (calls i) same v) (sym x)

      ahead : (k : Ask) (v : ℕ) → lookup (place v (Ancestry k)) ps ≡ lookup (place v (Ancestry k)) os
      ahead k v =
          let x = rw a at (p.ancestry_asks_are_unsettled_requests k v) in
          let y = rw b at (q.ancestry_asks_are_unsettled_requests k v) in
          y ∙ one k v (cases_Bool (settles g.viewed sort L k v (calls h))) ∙ sym x
        where
          one : (k : Ask) (v : ℕ) → (settles g.viewed sort L k v (calls h) ≡ true) ⊎ (settles g.viewed sort L k v (calls h) ≡ false) → if_asked (requested k v (calls i) && not (settles g.viewed sort L k v (calls i))) v k (target k v (calls i)) ≡ if_asked (requested k v (calls h) && not (settles g.viewed sort L k v (calls h))) v k (target k v (calls h))
          one k v (inl done) = let e = same_settles g.viewed sort L (calls h) (calls i) same k v in rw (e, done) (off (requested k v (calls i)) (requested k v (calls h)))
            where
              off : (x y : Bool) → if_asked (x && false) v k (target k v (calls i)) ≡ if_asked (y && false) v k (target k v (calls h))
              off true true = refl
              off true false = refl
              off false true = refl
              off false false = refl
          one k v (inr free) = rw (same_settles g.viewed sort L (calls h) (calls i) same k v, same.requested k v free, same.target k v free) refl

  above : (L : ℕ) (positive : 0 < L) (h i : List (Call R)) → Same g.viewed sort L h i → VerdictsAgree g.viewed sort h → AgreeAbove g.viewed sort L positive i
  above L positive h i same agree v past t =
      let up : finalized g.viewed sort h < v = omega (arith, past, same.top) in
      same.failed v up ∙ agree v (sym (same.passed v up) ∙ t)

  pub end_alike : EndAlike P g read sort era
  unfolding said
  end_alike L ms s t os ps w carries agree apart =
      let p = law g sort era w.one w.direct s os w.directly_reached in
      let q = law g sort era w.other w.later t ps w.then_reached in
      let positive : 0 < L = omega (arith, s.store.term_length.positive, (at_each sort era w.one w.direct s os w.directly_reached).suits.length, w.length) in
      let one : 0 < w.one.length = omega (arith, positive, w.length) in
      let other : 0 < w.other.length = omega (arith, positive, w.same_length) in
      let first = subst (λ n. Same g.viewed sort n (said read ms) (calls w.direct)) w.length (all_called read g.viewed sort era w.one one ms w.direct w.directly p.every_answer_by_the_rules) in
      let second = subst (λ n. Same g.viewed sort n (said read w.out) (calls w.later)) w.same_length (all_called read g.viewed sort era w.other other w.out w.later w.then q.every_answer_by_the_rules) in
      let sound = all_sound read g.viewed sort era w.one one ms w.direct w.directly p.every_answer_by_the_rules carries in
      let inv = through read g.viewed sort L positive ms w.out w.left w.queued sound (record { agree = agree; apart = apart }) in
      let nothing : inside w.left ≡ [] = rw (w.emptied.finalization, w.emptied.messages) refl in
      let came : Same g.viewed sort L (said read ms) (said read w.out) = subst (λ ns. Same g.viewed sort L (said read ms) (said read ns ++ said read w.out)) nothing inv.same in
      let all = same_trans g.viewed sort L (said read ms) (said read w.out) (calls w.later) came second in
      alike L w.one w.other w.direct w.later s t os ps w.length w.same_length positive p q
      (same_trans g.viewed sort L (calls w.direct) (said read ms) (calls w.later) (same_sym g.viewed sort L (said read ms) (calls w.direct) first) all)
      (above L positive (said read ms) (calls w.direct) first agree) (above L positive (said read ms) (calls w.later) all agree)

  -- two runs from the making
  pub fresh_end_alike : (ms : List (Message P)) (cuts : List ℕ) (places : ℕ) (s s' : State R g) (os os' : List Open) (t t' : State R g) (ps ps' : List Open) (q q' : Queue P) → Ran read sort era ms cuts places s s' os os' t t' ps ps' q q' → FreshEndAlike read sort era ms cuts places s s' os os' t t' ps ps' q
  fresh_end_alike ms cuts places s s' os os' t t' ps ps' q q' ran u w L a b from from' none =
      let d = ran.directly u [] [] none_called from in
      let e = ran.through w [] [] [] (subst (Through [] []) (sym (nothing q none)) nothing_offered) none_called from' in
      end_alike L ms s' t' os' ps' (record {
        one = u;
        other = w;
        length = a;
        same_length = b;
        direct = d.0;
        directly = d.1;
        directly_reached = d.2;
        out = all_out ms cuts places q;
        left = q';
        queued = e.1;
        emptied = ran.emptied;
        later = e.0;
        then = e.2;
        then_reached = e.3;
      })
    where
      nothing : (q : Queue P) → Emptied q → q ≡ record { finalization = None; messages = [] }
      nothing q none = empty_parts q.finalization q.messages none.finalization none.messages
        where
          empty_parts : (f : Option (Message P)) (ns : List (Message P)) → f ≡ None → ns ≡ [] → queue_with f ns ≡ queue_with None []
          empty_parts f ns e d = rw (e, d) refl
