-- What a call answers by the state and the board is what the rules say by the accepted calls.
use Rattle.std.proofs.Common.{◌≡◌, ℕ, ◌+◌, ◌<◌, ◌≤◌, Bool, true, false, not, List, [], ◌∷◌, length, is_some, Ok, Err, Result, refl, ap, ◌∙◌, inl, inr, arith}
use Rattle.std.proofs.lemmas.Bool.{cases_Bool, and_parts}
use Rattle.std.proofs.lemmas.Grind.{common_steps}
use Rattle.std.proofs.lemmas.List.Elements.{filter_agree}
use Rattle.board.specs.Asks.{rank, kind_of}
use Rattle.board.specs.Boards.{is_open, ancestries}
use Rattle.board.specs.declared.ask.Ask.{Ask as Asks}
use Rattle.board.specs.declared.ask.Ask.TheVariants.{Ancestry}
use Rattle.board.specs.declared.open.Open.{Open}
use Rattle.effects.specs.declared.effect.Kind.{Kind as Ask}
use Rattle.effects.specs.declared.effect.Kind.TheVariants as ask
use Rattle.record.specs.declared.fault.Fault.{Fault as Misread}
use Rattle.record.specs.declared.kind.Kind.{Kind}
use Rattle.record.specs.declared.kind.Kind.TheVariants.{Notarization, Nullification, Finalization}
use Rattle.resolver.specs.Calls.{request_answer}
use Rattle.resolver.specs.Deliveries.{settled_asks, is_obsolete, judged, delivery_answer}
use Rattle.state.specs.Answers.{evidence_answer, verdict_answer, marker_answer}
use Rattle.store.specs.Room.{row_due, rows_held, verdict_due, verdict_rows}
use Rattle.store.specs.Steps.{updated, before_planning, planned}
use Rattle.store.specs.Values.{Values, mark_view, gaps_of}
use Rattle.views.specs.declared.Viewable as viewable
use Rattle.state.proofs.Sounds.{Rises as Rise}
use Rattle.history.specs.Calls.{Call, evidence, requested, target, settles, gaps}
use Rattle.history.specs.Rules as rule
use Rattle.history.specs.Rules.{view_in, request_in, all_in}
use Rattle.history.proofs.Asks.{Asked}
use Rattle.history.proofs.Counted.{names_nullified, names_notarized, names_failed, names_passed, names_requested, nullified_if_found, gaps_alike}
use Rattle.history.proofs.Counts.{of_rank, rank_low, rows_counted, asks_counted}
use Rattle.history.proofs.Boards.{background_rank}
use Rattle.history.proofs.Recorded.{Recorded, recorded_evidence, judged_either}
use Rattle.history.proofs.Told.{settled_alike}

-- ancestry asks are those of the other two ranks
ancestries_parted : (os : List Open) → length (ancestries os) ≡ length (of_rank 1 os) + length (of_rank 2 os)
ancestries_parted [] = refl
ancestries_parted (o ∷ os) = let i = ancestries_parted os in let r = background_rank o.ask in let l = rank_low o.ask in grind (arith, common_steps)

module _ {R : Type 0} {g : viewable.Ghosts R} (sort : R → Kind) (L : ℕ) (positive : 0 < L) (h : List (Call R)) (s : Values R g) (up : Rise s) (r : Recorded sort L h s) where
  due_alike : (k : Kind) (v : ℕ) → row_due L k v s ≡ rule.row_due g.viewed sort L k v h
  due_alike Nullification v = let n = r.nullifications v in let f = nullified_if_found g.viewed sort v h in let t = r.top in grind (arith, common_steps)
  due_alike Notarization v =
      let p = r.pending v in
      let c = r.certified v in
      let f = r.failed v in
      let j = judged_either g.viewed sort v h in
      let t = r.top in
      grind (arith, common_steps)
  due_alike Finalization v = refl

  rows_alike : (k : Kind) → rows_held L k s ≡ rule.rows g.viewed sort L k h
  rows_alike Nullification = rows_counted g.viewed s.nullifications up.nullifications (all_in (view_in g.viewed) h) _ (λ q. let n = r.nullifications q in let f = nullified_if_found g.viewed sort q h in let t = r.top in grind (arith, common_steps)) (λ q t. names_nullified g.viewed sort q h (and_parts _ _ t).1)
  rows_alike Notarization = rows_counted mark_view s.pending up.pending (all_in (view_in g.viewed) h) _ (λ q. r.pending q ∙ (let t = r.top in grind (arith, common_steps))) (λ q t. names_notarized g.viewed sort q h (and_parts _ _ (and_parts _ _ t).1).0)
  rows_alike Finalization = refl

  verdict_due_alike : (b : Bool) (v : ℕ) → verdict_due L b v s ≡ rule.verdict_due g.viewed sort L b v h
  verdict_due_alike true v = let c = r.certified v in let t = r.top in grind (arith, common_steps)
  verdict_due_alike false v = let c = r.failed v in let t = r.top in grind (arith, common_steps)

  verdict_rows_alike : (b : Bool) → verdict_rows L b s ≡ rule.verdict_rows g.viewed sort L b h
  verdict_rows_alike true = rows_counted g.viewed s.certified up.certified (all_in (view_in g.viewed) h) _ (λ q. let c = r.certified q in let t = r.top in grind (arith, common_steps)) (λ q t. names_passed g.viewed sort q h (and_parts _ _ t).1)
  verdict_rows_alike false = rows_counted mark_view s.failed up.failed (all_in (view_in g.viewed) h) _ (λ q. r.failed q ∙ (let t = r.top in grind (arith, common_steps))) (λ q t. names_failed g.viewed sort q h (and_parts _ _ t).1)

  -- evidence, where it is known what it would leave
  pub evidence_alike : (x : R) → Recorded sort L (evidence x ∷ h) (updated L (sort x) x s) → evidence_answer L (sort x) x s ≡ rule.evidence_rule g.viewed sort L x h
  unfolding evidence_answer planned
  evidence_alike x next =
      let d = due_alike (sort x) (g.viewed x) in
      let n = rows_alike (sort x) in
      let c = r.current in
      let on = r.replaying in
      let gs : length (gaps_of L (before_planning L (sort x) x s)) ≡ length (gaps g.viewed sort L (evidence x ∷ h)) = ap length (gaps_alike sort L positive (evidence x ∷ h) (updated L (sort x) x s) next) in
      rw (gs, d, n, c, on) (grind (arith, common_steps))

  pub verdict_alike : (b : Bool) (x : R) → verdict_answer L b (sort x) (g.viewed x) s ≡ rule.verdict_rule g.viewed sort L b x h
  unfolding verdict_answer
  verdict_alike b x = rw (verdict_due_alike b (g.viewed x), verdict_rows_alike b) refl

  pub marker_alike : marker_answer L s ≡ rule.marker_rule g.viewed sort L h
  unfolding marker_answer
  marker_alike = rw (gaps_alike sort L positive h s r) refl

  -- what a delivery is worth
  settled_asks_alike : (v : ℕ) (qs : List Asks) → settled_asks L v qs s ≡ rule.settled_asks g.viewed sort L v qs h
  settled_asks_alike v qs = ap length (filter_agree _ _ (λ a. settled_alike sort L positive h s r (kind_of a) v) qs)

  obsolete_alike : (x : R) → is_obsolete {g = g} (sort x) (g.viewed x) s ≡ rule.obsolete g.viewed sort L x h
  obsolete_alike x = let f = r.failed (g.viewed x) in let t = r.top in grind (arith, common_steps)

  judged_alike : (qs : List Asks) (v : ℕ) (x : R) → judged L sort qs v x s ≡ rule.judged_rule g.viewed sort L qs v x h
  judged_alike qs v x =
      let next = recorded_evidence sort L x h s r in
      let before = settled_asks_alike v qs in
      let after : settled_asks L v qs (updated L (sort x) x s) ≡ rule.settled_asks g.viewed sort L v qs (evidence x ∷ h) = ap length (filter_agree _ _ (λ a. settled_alike sort L positive (evidence x ∷ h) (updated L (sort x) x s) next (kind_of a) v) qs) in
      rw (obsolete_alike x, evidence_alike x next, before, after) refl

  pub delivery_alike : (valid : R → Bool) (qs : List Asks) (v : ℕ) (read : Result R Misread) → delivery_answer L sort qs v valid read s ≡ rule.delivery_rule g.viewed sort L valid qs v read h
  delivery_alike valid qs v (Err f) = rw (settled_alike sort L positive h s r ask.Nullification v, settled_alike sort L positive h s r ask.Notarization v) refl
  delivery_alike valid qs v (Ok x) = rw (settled_alike sort L positive h s r ask.Nullification v, settled_alike sort L positive h s r ask.Notarization v) (elim (cases_Bool (valid x)) [
    | inl t ↦ rw t (rw (judged_alike qs v x) refl)
    | inr f ↦ rw f refl
  ])

  -- a request, by what the board has open
  module _ (os : List Open) (asked : Asked L (λ k v. requested k v h) (λ k v. target k v h) s os) where
    open_counted : (k : Ask) → length (of_rank (rank (Ancestry k)) os) ≡ rule.open_requests g.viewed sort L k h
    open_counted k = asks_counted (rank (Ancestry k)) (low k) os asked.up (all_in (request_in k) h) (λ v. not (settles g.viewed sort L k v h)) (λ q. ap is_some (asked.ancestry k q) ∙ (let e = settled_alike sort L positive h s r k q in let n = names_requested k q h in grind (arith, common_steps)))
      where
        low : (k : Ask) → rank (Ancestry k) ≤ 2
        low ask.Nullification = omega arith
        low ask.Notarization = omega arith

    pub request_alike : (p v : ℕ) (k : Ask) → request_answer L p v k os s ≡ rule.request_rule g.viewed sort L p v k h
    request_alike p v k =
        let a : is_open v (Ancestry k) os ≡ rule.stays_open g.viewed sort L k v h = ap is_some (asked.ancestry k v) ∙ (let e = settled_alike sort L positive h s r k v in grind (arith, common_steps)) in
        let n : length (ancestries os) ≡ rule.open_requests g.viewed sort L ask.Nullification h + rule.open_requests g.viewed sort L ask.Notarization h = omega (arith, ancestries_parted os, open_counted ask.Nullification, open_counted ask.Notarization) in
        rw (a, n, settled_alike sort L positive h s r k v) refl
