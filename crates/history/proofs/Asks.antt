-- The open asks of a board that followed the effects of a call, by what its state holds.
use Rattle.std.proofs.Common.{◌≡◌, ℕ, ◌+◌, ◌<◌, ◌≤◌, Bool, true, false, not, ◌&&◌, ◌||◌, ltb, eqb, List, [], ◌∷◌, ◌++◌, map, None, Option, Decides, sym, refl, ap, ◌∙◌, inl, inr, arith}
use Rattle.std.specs.List.{list_any}
use Rattle.std.specs.Set.{is_member}
use Rattle.std.proofs.lemmas.Bool.{both_ways, cases_Bool, or_cases, and_parts, lt-ltb, ltb-true}
use Rattle.std.proofs.lemmas.Bool.Decides.{same_from_decides}
use Rattle.std.proofs.lemmas.Grind.{common_steps}
use Rattle.std.proofs.lemmas.List.{length-append, length-map}
use Rattle.board.specs.Asks.{place}
use Rattle.board.specs.Boards.{opened}
use Rattle.board.specs.Sorting.{lookup, Rises}
use Rattle.board.specs.declared.ask.Ask.TheVariants.{Background, Ancestry}
use Rattle.board.specs.declared.open.Open.{Open}
use Rattle.effects.specs.declared.effect.Effect.{Effect}
use Rattle.effects.specs.declared.effect.Effect.TheVariants.{Fetch, Settled, Finalized, Raised}
use Rattle.effects.specs.declared.effect.FetchReason.TheVariants.{MissingNullification, CertificationFailed}
use Rattle.effects.specs.declared.effect.Kind.{Kind as Ask}
use Rattle.effects.specs.declared.effect.Kind.TheVariants as ask
use Rattle.planning.proofs.Gaps.{gaps_exactly}
use Rattle.planning.specs.Gaps.{among}
use Rattle.resolver.specs.Applied.{ended, in_turn, applied}
use Rattle.state.specs.Laws.{fetched, is_gap, NoGapUnasked, EveryGapAsked, SettledOnlyGrows}
use Rattle.lawful.specs.Lawful.{Lawful}
use Rattle.state.specs.Settled.{settled}
use Rattle.store.specs.Values.{Values, mark_view, finalized, has_failed, is_covered, gaps_of}
use Rattle.table.specs.Rows.{holds, lookup as lookup_row}
use Rattle.table.specs.declared.mark.Mark.{Mark}
use Rattle.views.specs.declared.Viewable as viewable
use Rattle.history.specs.Promises.{if_needed, if_asked}
use Rattle.history.proofs.Boards.{ends, fetches, if_left, Behind, Named, all_ended, all_begun}

-- a failed view is fetched
abbrev pub fetches_failed : ℕ → Effect → Bool
fetches_failed v (Fetch u c MissingNullification) = false
fetches_failed v (Fetch u c CertificationFailed) = eqb u v
fetches_failed v (Settled k a b) = false
fetches_failed v (Finalized u) = false
fetches_failed v (Raised u) = false

abbrev pub failed_fetched : ℕ → List Effect → Bool
failed_fetched v es = list_any (fetches_failed v) es

-- a fetch is of a gap or of a failed view
fetches_either : (v : ℕ) (es : List Effect) → list_any (fetches v) es ≡ (fetched v es || failed_fetched v es)
fetches_either v [] = refl
fetches_either v (e ∷ es) = let i = fetches_either v es in one e i
  where
    one : (e : Effect) → list_any (fetches v) es ≡ (fetched v es || failed_fetched v es) → list_any (fetches v) (e ∷ es) ≡ (fetched v (e ∷ es) || failed_fetched v (e ∷ es))
    one (Fetch u c MissingNullification) i = grind (arith, common_steps)
    one (Fetch u c CertificationFailed) i = grind (arith, common_steps)
    one (Settled k a b) i = i
    one (Finalized u) i = i
    one (Raised u) i = i

-- members of a list
pub gaps_member : (v : ℕ) (gs : List ℕ) → is_member eqb gs v ≡ among v gs
gaps_member v [] = refl
gaps_member v (x ∷ xs) = let i = gaps_member v xs in grind (arith, common_steps)

pub failed_member : (v : ℕ) → (rs : List Mark) → is_member eqb (map mark_view rs) v ≡ holds mark_view v rs
unfolding lookup_row
failed_member v [] = refl
failed_member v (x ∷ xs) = let i = failed_member v xs in grind (arith, common_steps)

member_append : (v : ℕ) (xs ys : List ℕ) → is_member eqb (xs ++ ys) v ≡ (is_member eqb xs v || is_member eqb ys v)
member_append v [] ys = refl
member_append v (x ∷ xs) ys = let i = member_append v xs ys in grind (arith, common_steps)

module _ {R : Type 0} {g : viewable.Ghosts R} (L : ℕ) where
  -- a view above the floor that nothing covers
  abbrev pub bare : ℕ → Values R g → Bool
  bare v s = ltb s.floor v && not (is_covered L s v)

  -- the views that a state must ask for
  abbrev pub wanted : ℕ → Values R g → Bool
  wanted v s = is_gap L v s || (has_failed v s && bare v s)

  -- what the effects of a call tell the board, by the states before and after it
  pub record Tells (s t : Values R g) (es : List Effect) : Type 0 where
    pub floor : s.floor ≤ t.floor
    pub low : finalized t ≤ t.floor
    pub replay : t.replaying ≡ true → s.replaying ≡ true
    pub quiet : (v : ℕ) → t.replaying ≡ true → list_any (fetches v) es ≡ false
    pub ends_background : (v : ℕ) → bare v s ≡ true → list_any (ends (opened v Background None)) es ≡ not (bare v t)
    pub ends_ancestry : (k : Ask) (v : ℕ) (seat : Option ℕ) → settled L k v s ≡ false → list_any (ends (opened v (Ancestry k) seat)) es ≡ settled L k v t
    pub failed_more : (v : ℕ) → t.replaying ≡ false → bare v t ≡ true → has_failed v t ≡ ((not s.replaying && has_failed v s) || failed_fetched v es)
    pub failed_only : (v : ℕ) → failed_fetched v es ≡ true → (bare v t ≡ true) × (has_failed v t ≡ true)

  module _ (positive : 0 < L) (s : Values R g) where
    gap_bare : (v : ℕ) → is_gap L v s ≡ true → bare v s ≡ true
    gap_bare v gap =
        let e = (gaps_exactly L positive (is_covered L s) (s.floor + 1) s.current v).0 gap in
        let up = lt-ltb s.floor v (omega (arith, e.0.above)) in
        let free = e.1 in
        grind (arith, common_steps)

    wanted_bare : (v : ℕ) → wanted v s ≡ true → bare v s ≡ true
    wanted_bare v w = elim (or_cases (is_gap L v s) (has_failed v s && bare v s) w) [ inl gap ↦ gap_bare v gap | inr failed ↦ (and_parts (has_failed v s) (bare v s) failed).1 ]

  module _ (positive : 0 < L) (s t : Values R g) (es : List Effect) (tells : Tells s t es) (asked : NoGapUnasked L s t es) (every : t.replaying ≡ false → EveryGapAsked L s t es) (grows : SettledOnlyGrows L s t) where
    -- what the board has open afterwards in the background, from what is left and what is fetched
    abbrev later : ℕ → Bool
    later v = ((not s.replaying && wanted v s) && not (list_any (ends (opened v Background None)) es)) || list_any (fetches v) es

    covers_stay : (v : ℕ) → bare v t ≡ true → s.floor < v → bare v s ≡ true
    unfolding settled
    covers_stay v free up =
        let g' = grows ask.Nullification v in
        let low = tells.low in
        grind (arith, common_steps)

    to_wanted : (v : ℕ) → t.replaying ≡ false → s.replaying ≡ false → later v ≡ true → wanted v t ≡ true
    to_wanted v over was is = elim (or_cases _ (list_any (fetches v) es) is) [
      | inl left ↦
          let p = and_parts (not s.replaying && wanted v s) (not (list_any (ends (opened v Background None)) es)) left in
          let w : wanted v s ≡ true = (and_parts (not s.replaying) (wanted v s) p.0).1 in
          let free : bare v t ≡ true = let e = tells.ends_background v (wanted_bare positive s v w) in let q = p.1 in grind (arith, common_steps) in
          elim (or_cases (is_gap L v s) (has_failed v s && bare v s) w) [
            | inl gap ↦ (let k = (asked was v).1 (inr (record { gap = gap; above = ltb-true t.floor v (and_parts (ltb t.floor v) (not (is_covered L t v)) free).0; bare = grind (arith, common_steps) })) in grind (arith, common_steps))
            | inr failed ↦ (let m = tells.failed_more v over free in grind (arith, common_steps))
          ]
      | inr new ↦ elim (or_cases (fetched v es) (failed_fetched v es) (sym (fetches_either v es) ∙ new)) [
        | inl gap ↦ (let k = (asked was v).1 (inl gap) in grind (arith, common_steps))
        | inr failed ↦ (let m = tells.failed_only v failed in grind (arith, common_steps))
      ]
    ]

    from_wanted : (v : ℕ) → t.replaying ≡ false → s.replaying ≡ false → wanted v t ≡ true → later v ≡ true
    from_wanted v over was is =
        let either = fetches_either v es in
        let free = wanted_bare positive t v is in
        let ended = tells.ends_background v in
        let stays = covers_stay v free in
        let up = tells.floor in
        elim (or_cases (is_gap L v t) (has_failed v t && bare v t) is) [
          | inl gap ↦ elim ((asked was v).0 gap) [
            | inl new ↦ grind (arith, common_steps)
            | inr still ↦ (let b = gap_bare positive s v still.gap in let q = still.gap in grind (arith, common_steps))
          ]
          | inr failed ↦ (let m = tells.failed_more v over free in grind (arith, common_steps))
        ]

    pub background_after : (v : ℕ) → later v ≡ (not t.replaying && wanted v t)
    background_after v =
        let either = fetches_either v es in
        elim (cases_Bool t.replaying) [
          | inl on ↦ (let q = tells.quiet v on in let r = tells.replay on in grind (arith, common_steps))
          | inr over ↦ elim (cases_Bool s.replaying) [
            | inl was ↦ (let e = every over was v in let m = tells.failed_more v over in let o = tells.failed_only v in grind (arith, common_steps))
            | inr was ↦
                let here : Decides (later v) (wanted v t ≡ true) = (to_wanted v over was, from_wanted v over was) in
                let there : Decides (not t.replaying && wanted v t) (wanted v t ≡ true) = ((λ w. (let q = w in grind (arith, common_steps))), (λ w. (let q = w in grind (arith, common_steps)))) in
                same_from_decides (later v) (not t.replaying && wanted v t) here there
          ]
        ]

  -- what is open: the requests that are unsettled, and the views that are wanted
  pub record Asked (wish : Ask → ℕ → Bool) (seat : Ask → ℕ → Option ℕ) (s : Values R g) (os : List Open) : Type 0 where
    pub up : Rises os
    pub background : (v : ℕ) → lookup (place v Background) os ≡ if_needed (not s.replaying && wanted v s) v
    pub ancestry : (k : Ask) (v : ℕ) → lookup (place v (Ancestry k)) os ≡ if_asked (wish k v && not (settled L k v s)) v k (seat k v)

  module _ (positive : 0 < L) (s t : Values R g) (es : List Effect) (tells : Tells s t es) (asked : NoGapUnasked L s t es) (every : t.replaying ≡ false → EveryGapAsked L s t es) (grows : SettledOnlyGrows L s t) (ok : Lawful L t) where
    -- a state wants no more background asks than the board keeps
    named : (vs : List ℕ) × Named vs (later positive s t es tells asked every grows)
    named = elim (cases_Bool t.replaying) [
      | inl on ↦ ([], record { few = omega arith; named = λ q w. let b = background_after positive s t es tells asked every grows q in absurd (both_ways (later positive s t es tells asked every grows q) (grind (arith, common_steps)) w) })
      | inr over ↦ (
        gaps_of L t ++ map mark_view t.failed,
        record {
          few = omega (arith, length-append (gaps_of L t) (map mark_view t.failed), length-map t.failed mark_view, ok.planned.gaps_few over, ok.sound.failed_few);
          named = λ q w.
              let b = background_after positive s t es tells asked every grows q in
              let m = member_append q (gaps_of L t) (map mark_view t.failed) in
              let n = gaps_member q (gaps_of L t) in
              let o = failed_member q t.failed in
              grind (arith, common_steps);
        },
      )
    ]

    pub asked_after : (wish : Ask → ℕ → Bool) (seat : Ask → ℕ → Option ℕ) (os : List Open) → Asked wish seat s os → Asked wish seat t (applied es os)
    asked_after wish seat os now' =
        let end = all_ended es os now'.up in
        let b : ℕ → Bool = λ v. (not s.replaying && wanted v s) && not (list_any (ends (opened v Background None)) es) in
        let behind : Behind (in_turn ended es os) b = λ v. end.1 (place v Background) ∙ ap (if_left es) (now'.background v) ∙ (let w = b v in grind (arith, common_steps)) in
        let begin = all_begun es (in_turn ended es os) b named.0 end.0 behind named.1 in
        record {
          up = begin.0;
          background = λ v. begin.1 v ∙ ap (λ c. if_needed c v) (background_after positive s t es tells asked every grows v);
          ancestry = λ k v. begin.2 k v ∙ end.1 (place v (Ancestry k)) ∙ ap (if_left es) (now'.ancestry k v) ∙ (let e = tells.ends_ancestry k v (seat k v) in let m = grows k v in grind (arith, common_steps));
        }
