-- What the effects of a call make of the open asks.
use Rattle.std.proofs.Common.{◌≡◌, ℕ, ◌<◌, ◌≤◌, Bool, true, false, cond, not, ◌||◌, eqb, List, [], ◌∷◌, length, Some, None, Option, sym, refl, ap, ◌∙◌, inl, inr, arith}
use Rattle.std.specs.List.{AllByRecursion as All, IsDistinct}
use Rattle.std.specs.Set.{is_member}
use Rattle.std.specs.List.{list_any}
use Rattle.std.proofs.lemmas.Bool.{both_ways, cases_Bool, cases_eq, eq-eqb, ne_eqb, eqb-true}
use Rattle.std.proofs.Math.Bool.{or_assoc}
use Rattle.std.proofs.lemmas.Cmp.{nat_eq_equiv}
use Rattle.std.proofs.lemmas.Grind.{common_steps}
use Rattle.std.proofs.lemmas.List.{length-map}
use Rattle.std.proofs.lemmas.Map.Made.{length-le_from_is_member}
use Rattle.board.proofs.Sorting.{lookup_placed, lookup_filter, rises_distinct, rises_filter, rises_placed}
use Rattle.board.proofs.Sorting as sorting
use Rattle.board.specs.Asks.{is_background, place, place_of, rank, retires}
use Rattle.board.specs.Boards.{opened, backfilled, backgrounds}
use Rattle.board.specs.Sorting.{lookup, placed, Rises}
use Rattle.board.specs.declared.ask.Ask.{Ask}
use Rattle.board.specs.declared.ask.Ask.TheVariants.{Background, Ancestry}
use Rattle.board.specs.declared.open.Open.{Open}
use Rattle.board.specs.declared.retire.Retire.TheVariants as retire
use Rattle.effects.specs.declared.effect.Effect.{Effect}
use Rattle.effects.specs.declared.effect.Effect.TheVariants.{Fetch, Settled, Finalized, Raised}
use Rattle.effects.specs.declared.effect.Kind.{Kind}
use Rattle.effects.specs.declared.effect.Kind.TheVariants.{Nullification, Notarization}
use Rattle.resolver.specs.Applied.{ended, begun, in_turn}
use Rattle.history.specs.Promises.{if_needed}
use Rattle.history.proofs.Counts.{of_rank, ask_views, asks_once, ask_is_member}

-- an effect ends an open ask, or fetches a view
abbrev pub ends : Open → Effect → Bool
ends o (Fetch v c r) = false
ends o (Settled k a b) = retires (retire.Settled k a b) o
ends o (Finalized v) = retires (retire.Finalized v) o
ends o (Raised v) = retires (retire.Raised v) o

abbrev pub fetches : ℕ → Effect → Bool
fetches v (Fetch u c r) = eqb u v
fetches v (Settled k a b) = false
fetches v (Finalized u) = false
fetches v (Raised u) = false

-- what is left of an open ask
abbrev pub if_left : List Effect → Option Open → Option Open
if_left es None = None
if_left es (Some o) = cond (list_any (ends o) es) None (Some o)

-- what one effect ends
one_ended : (e : Effect) (os : List Open) → Rises os → Rises (ended e os) × ((p : ℕ) → lookup p (ended e os) ≡ if_left (e ∷ []) (lookup p os))
one_ended (Fetch v c r) os up = (up, λ p. left_alone (lookup p os))
  where
    left_alone : (found : Option Open) → found ≡ if_left (Fetch v c r ∷ []) found
    left_alone None = refl
    left_alone (Some o) = refl
one_ended (Settled k a b) os up = (rises_filter (λ o. not (retires (retire.Settled k a b) o)) os up, λ p. lookup_filter (λ o. not (retires (retire.Settled k a b) o)) p os (rises_distinct os up) ∙ passing (lookup p os))
  where
    passing : (found : Option Open) → sorting.if_passes (λ o. not (retires (retire.Settled k a b) o)) found ≡ if_left (Settled k a b ∷ []) found
    passing None = refl
    passing (Some o) = grind (arith, common_steps)
one_ended (Finalized v) os up = (rises_filter (λ o. not (retires (retire.Finalized v) o)) os up, λ p. lookup_filter (λ o. not (retires (retire.Finalized v) o)) p os (rises_distinct os up) ∙ passing (lookup p os))
  where
    passing : (found : Option Open) → sorting.if_passes (λ o. not (retires (retire.Finalized v) o)) found ≡ if_left (Finalized v ∷ []) found
    passing None = refl
    passing (Some o) = grind (arith, common_steps)
one_ended (Raised v) os up = (rises_filter (λ o. not (retires (retire.Raised v) o)) os up, λ p. lookup_filter (λ o. not (retires (retire.Raised v) o)) p os (rises_distinct os up) ∙ passing (lookup p os))
  where
    passing : (found : Option Open) → sorting.if_passes (λ o. not (retires (retire.Raised v) o)) found ≡ if_left (Raised v ∷ []) found
    passing None = refl
    passing (Some o) = grind (arith, common_steps)

left_then : (e : Effect) (es : List Effect) (found : Option Open) → if_left es (if_left (e ∷ []) found) ≡ if_left (e ∷ es) found
left_then e es None = refl
left_then e es (Some o) = elim (cases_Bool (ends o e)) [ inl t ↦ rw t refl | inr f ↦ rw f refl ]

-- what all of them end
pub all_ended : (es : List Effect) (os : List Open) → Rises os → Rises (in_turn ended es os) × ((p : ℕ) → lookup p (in_turn ended es os) ≡ if_left es (lookup p os))
unfolding in_turn
all_ended [] os up = (up, λ p. left_alone (lookup p os))
  where
    left_alone : (found : Option Open) → found ≡ if_left [] found
    left_alone None = refl
    left_alone (Some o) = refl
all_ended (e ∷ es) os up =
    let one = one_ended e os up in
    let more = all_ended es (ended e os) one.0 in
    (more.0, λ p. more.1 p ∙ ap (if_left es) (one.1 p) ∙ left_then e es (lookup p os))

-- background asks are those of the first rank
pub background_rank : (a : Ask) → is_background a ≡ eqb (rank a) 0
background_rank Background = refl
background_rank (Ancestry Nullification) = refl
background_rank (Ancestry Notarization) = refl

backgrounds_alike : (os : List Open) → length (backgrounds os) ≡ length (of_rank 0 os)
backgrounds_alike [] = refl
backgrounds_alike (o ∷ os) = let e = background_rank o.ask in let i = backgrounds_alike os in grind (arith, common_steps)

-- what the board has open in the background: b tells the views
abbrev pub Behind : List Open → (ℕ → Bool) → Type 0
Behind os b = (q : ℕ) → lookup (place q Background) os ≡ if_needed (b q) q

-- the views that the background asks may have: no more than the board keeps
pub record Named (vs : List ℕ) (b : ℕ → Bool) : Type 0 where
  pub few : length vs ≤ 256
  pub named : (q : ℕ) → b q ≡ true → is_member eqb vs q ≡ true

not_among : (q : ℕ) (ns : List ℕ) → is_member eqb ns q ≡ false → All (λ n. eqb q n ≡ false) ns
not_among q [] f = tt
not_among q (n ∷ ns) f = elim (cases_Bool (eqb q n)) [ inl t ↦ absurd (both_ways _ f (rw t refl)) | inr g ↦ (g, not_among q ns (let e = f in rw g at e)) ]

-- one more fits where it may be asked for
one_fits : (os : List Open) (b : ℕ → Bool) (vs : List ℕ) (v : ℕ) → Rises os → Behind os b → Named vs b → is_member eqb vs v ≡ true → b v ≡ false → length (backgrounds os) < 256
unfolding IsDistinct
one_fits os b vs v up behind n m f =
    let is : (q : ℕ) → is_member eqb (ask_views 0 os) q ≡ b q = λ q. ask_is_member 0 (omega arith) os q ∙ (let e = behind q in grind (arith, common_steps)) in
    let fits = length-le_from_is_member nat_eq_equiv (v ∷ ask_views 0 os) vs (not_among v (ask_views 0 os) (is v ∙ f), asks_once 0 os up) (λ q t. elim (cases_eq q v) [ inl e ↦ rw e m | inr d ↦ n.named q (let i = is q in let w = ne_eqb q v d in grind (arith, common_steps)) ]) in
    let same : length (backgrounds os) ≡ length (of_rank 0 os) = backgrounds_alike os in
    omega (arith, fits, n.few, same, length-map (of_rank 0 os) (λ o. o.view))

-- what stays of the asks that are no background asks
abbrev pub SameAncestry : List Open → List Open → Type 0
SameAncestry os os' = (k : Kind) (q : ℕ) → lookup (place q (Ancestry k)) os' ≡ lookup (place q (Ancestry k)) os

pub ancestry_rank : (k : Kind) → (1 ≤ rank (Ancestry k)) × (rank (Ancestry k) ≤ 2)
ancestry_rank Nullification = (omega arith, omega arith)
ancestry_rank Notarization = (omega arith, omega arith)

-- one fetch
one_backfilled : (v : ℕ) (os : List Open) (b : ℕ → Bool) (vs : List ℕ) → Rises os → Behind os b → Named vs (λ q. b q || eqb v q) → Rises (backfilled v os) × Behind (backfilled v os) (λ q. b q || eqb v q) × SameAncestry os (backfilled v os)
one_backfilled v os b vs up behind n = elim (cases_Bool (b v)) [
  | inl open' ↦
      let still : backfilled v os ≡ os = let e = behind v in grind (arith, common_steps) in
      rw still (up, λ q. behind q ∙ ap (λ t. if_needed t q) (let e : eqb v q ≡ true → b q ≡ true = λ t. ap b (sym (eqb-true v q t)) ∙ open' in grind (arith, common_steps)), λ k q. refl)
  | inr closed ↦
      let o = opened v Background None in
      let old : Named vs b = record { few = n.few; named = λ q t. n.named q (rw t refl) } in
      let room = one_fits os b vs v up behind old (n.named v (rw (eq-eqb v v refl) (let e = closed in grind (arith, common_steps)))) closed in
      let goes : backfilled v os ≡ placed o os = let e = behind v in grind (arith, common_steps) in
      rw goes (
        rises_placed o os up,
        λ q. lookup_placed (place q Background) o os ∙ (elim (cases_eq v q) [
          | inl e ↦ rw (eq-eqb (place_of o) (place q Background) (omega (arith, e)), eq-eqb v q e) (let u : (b q || true) ≡ true = grind (arith, common_steps) in rw u (ap (λ w. Some (opened w Background None)) e))
          | inr d ↦ rw (ne_eqb (place_of o) (place q Background) (λ w. d (omega (arith, w))), ne_eqb v q d) (behind q ∙ ap (λ t. if_needed t q) (grind (arith, common_steps)))
        ]),
        λ k q. lookup_placed (place q (Ancestry k)) o os ∙ rw (ne_eqb (place_of o) (place q (Ancestry k)) (λ w. omega (arith, w, ancestry_rank k))) refl,
      )
]

one_begun : (e : Effect) (os : List Open) (b : ℕ → Bool) (vs : List ℕ) → Rises os → Behind os b → Named vs (λ q. b q || fetches q e) → Rises (begun e os) × Behind (begun e os) (λ q. b q || fetches q e) × SameAncestry os (begun e os)
one_begun (Fetch v c r) os b vs up behind n = one_backfilled v os b vs up behind n
one_begun (Settled k x y) os b vs up behind n = (up, λ q. behind q ∙ ap (λ t. if_needed t q) (grind (arith, common_steps)), λ k q. refl)
one_begun (Finalized v) os b vs up behind n = (up, λ q. behind q ∙ ap (λ t. if_needed t q) (grind (arith, common_steps)), λ k q. refl)
one_begun (Raised v) os b vs up behind n = (up, λ q. behind q ∙ ap (λ t. if_needed t q) (grind (arith, common_steps)), λ k q. refl)

-- all of them
pub all_begun : (es : List Effect) (os : List Open) (b : ℕ → Bool) (vs : List ℕ) → Rises os → Behind os b → Named vs (λ q. b q || list_any (fetches q) es) → Rises (in_turn begun es os) × Behind (in_turn begun es os) (λ q. b q || list_any (fetches q) es) × SameAncestry os (in_turn begun es os)
unfolding in_turn
all_begun [] os b vs up behind n = (up, λ q. behind q ∙ ap (λ t. if_needed t q) (grind (arith, common_steps)), λ k q. refl)
all_begun (e ∷ es) os b vs up behind n =
    let first : Named vs (λ q. b q || fetches q e) = record { few = n.few; named = λ q t. n.named q (grind (arith, common_steps)) } in
    let one = one_begun e os b vs up behind first in
    let all : Named vs (λ q. (b q || fetches q e) || list_any (fetches q) es) = record { few = n.few; named = λ q t. n.named q (grind (arith, common_steps)) } in
    let more = all_begun es (begun e os) (λ q. b q || fetches q e) vs one.0 one.1 all in
    (more.0, λ q. more.1 q ∙ ap (λ t. if_needed t q) (or_assoc (b q) (fetches q e) (list_any (fetches q) es)), λ k q. more.2 k q ∙ one.2 k q)
