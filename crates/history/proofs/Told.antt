-- What a state answers of a view, by the accepted calls.
use Rattle.std.proofs.Common.{◌≡◌, ℕ, ◌<◌, cond, ltb, List, None, refl, inl, inr, arith}
use Rattle.std.proofs.lemmas.Bool.{cases_lt, lt-ltb, le-ltb}
use Rattle.std.proofs.lemmas.Bool.Decides.{same_from_decides}
use Rattle.std.proofs.lemmas.Grind.{common_steps}
use Rattle.cover.proofs.Covers.{by_some_row, highest_covers}
use Rattle.cover.specs.Covers.{cover}
use Rattle.effects.specs.declared.effect.Kind.{Kind as Ask}
use Rattle.effects.specs.declared.effect.Kind.TheVariants as ask
use Rattle.record.specs.declared.kind.Kind.{Kind}
use Rattle.state.specs.Serving.{served}
use Rattle.state.specs.Settled.{settled}
use Rattle.store.specs.Values.{Values, finalized as finalized_in, is_covered}
use Rattle.table.proofs.Laws.{nearest}
use Rattle.table.specs.Rows.{highest, Ascending}
use Rattle.terms.proofs.Laws.{to_the_end, covers_between}
use Rattle.terms.specs.Terms.{end}
use Rattle.views.specs.declared.Viewable as viewable
use Rattle.history.specs.Calls.{Call, covered, highest_cover, settles, serves}
use Rattle.history.proofs.Covered.{same_end, by_some_call, same_cover, no_cover}
use Rattle.history.proofs.Recorded.{Recorded, judged_either}

module _ {R : Type 0} {g : viewable.Ghosts R} (sort : R → Kind) (L : ℕ) (positive : 0 < L) (h : List (Call R)) (s : Values R g) (r : Recorded sort L h s) where
  -- above the finalized view
  pub covered_alike : (v : ℕ) → finalized_in s < v → is_covered L s v ≡ covered g.viewed sort L v h
  covered_alike v past =
      let rows = by_some_row g.viewed L v s.nullifications in
      let calls = by_some_call g.viewed sort L v h in
      same_from_decides (is_covered L s v) (covered g.viewed sort L v h) rows (
        λ t. let m = calls.0 t in (m.0, m.1, (let e = r.nullifications m.0 in let w = ((to_the_end L positive m.0 v).0 m.1).1 in let k = m.2 in grind (arith, common_steps))),
        λ m. calls.1 (m.0, m.1, (let e = r.nullifications m.0 in let k = m.2 in grind (arith, common_steps))),
      )

  pub settled_alike : (k : Ask) (v : ℕ) → settled L k v s ≡ settles g.viewed sort L k v h
  unfolding settled
  settled_alike ask.Nullification v = elim (cases_lt (finalized_in s) v) [
    | inl past ↦ let c = covered_alike v past in let t = r.top in grind (arith, common_steps)
    | inr low ↦ let t = r.top in grind (arith, common_steps)
  ]
  settled_alike ask.Notarization v =
      let t = r.top in
      let p = r.pending v in
      let c = r.certified v in
      let f = r.failed v in
      let j = judged_either g.viewed sort v h in
      grind (arith, common_steps)

  cover_alike : (v : ℕ) → Ascending g.viewed s.nullifications → cover g.viewed L v s.nullifications ≡ cond (ltb (finalized_in s) (end L v)) (highest_cover g.viewed sort L v h) None
  unfolding cover
  cover_alike v up =
      let near = nearest g.viewed v s.nullifications up in
      let top = highest_covers g.viewed L v s.nullifications (to_the_end L positive) (covers_between L positive) (highest g.viewed v s.nullifications) near in
      elim (cases_lt (finalized_in s) (end L v)) [
        | inl open' ↦ rw (lt-ltb (finalized_in s) (end L v) open') (same_cover g.viewed sort L v h s.nullifications (λ u c. let e = r.nullifications u in let n = same_end L positive u v c in grind (arith, common_steps)) _ top)
        | inr over ↦ rw (le-ltb (finalized_in s) (end L v) over) (no_cover g.viewed sort L v s.nullifications (λ u c. let e = r.nullifications u in let n = same_end L positive u v c in grind (arith, common_steps)) _ top)
      ]

  pub served_alike : (v : ℕ) → Ascending g.viewed s.nullifications → served L v s ≡ serves g.viewed sort L v h
  unfolding served serves
  served_alike v up =
      let c = cover_alike v up in
      let t = r.top in
      let z = r.finalization in
      let f = r.floor in
      let a = r.certified v in
      let b = r.certified s.floor in
      rw (c, a, b, t, z, f) refl
