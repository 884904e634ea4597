-- What comes last is put behind the others.
use Rattle.std.proofs.Common.{◌≡◌, ℕ, Bool, true, false, ◌&&◌, leb, ltb, List, [], ◌∷◌, ◌++◌, length, is_none, None, filter, Option, Result, Ok, Err, MatchResult, sym, subst, refl, ap, ◌∙◌, inl, inr, arith, rules}
use Rattle.std.proofs.lemmas.Bool.{both_ways, cases_Bool, cond-true, cond-false, leb-false, lt-leb, ltb-true, le-ltb, ne_eqb, false≢true}
use Rattle.std.specs.Result.{IsOk}
use Rattle.effects.specs.declared.effect.Kind.{Kind}
use Rattle.board.specs.Asks.{place_of}
use Rattle.board.specs.Boards.{opened, backgrounds, ancestries, first_of, first_from, backfilled, ancestry_full, requested}
use Rattle.board.specs.Sorting.{lookup, placed}
use Rattle.board.specs.declared.ask.Ask.TheVariants.{Background, Ancestry}
use Rattle.board.specs.declared.fault.Fault.{Fault}
use Rattle.board.specs.declared.open.Open.{Open}
use Rattle.asked.specs.Lists.{comes_last}
use Rattle.asked.specs.Rows.{untargeted, Fitting}

-- where none stands at or after a place, none stands there, and what is put there comes behind the others
pub behind : (o : Open) (os : List Open) → is_none (first_of (filter (λ x. leb (place_of o) (place_of x)) os)) ≡ true → (lookup (place_of o) os ≡ None) × (placed o os ≡ os ++ o ∷ [])
unfolding lookup placed
behind o [] e = (refl, refl)
behind o (x ∷ xs) e = elim (cases_Bool (leb (place_of o) (place_of x))) [
  | inl t ↦ absurd (false≢true (sym (ap (λ l. is_none (first_of l)) (cond-true (leb (place_of o) (place_of x)) (x ∷ filter (λ y. leb (place_of o) (place_of y)) xs) (filter (λ y. leb (place_of o) (place_of y)) xs) t)) ∙ e))
  | inr f ↦
      let lower = leb-false (place_of o) (place_of x) f in
      let rest = behind o xs (sym (ap (λ l. is_none (first_of l)) (cond-false (leb (place_of o) (place_of x)) (x ∷ filter (λ y. leb (place_of o) (place_of y)) xs) (filter (λ y. leb (place_of o) (place_of y)) xs) f)) ∙ e) in
      let other = ne_eqb (place_of x) (place_of o) (λ s. omega arith) in
      let another = ne_eqb (place_of o) (place_of x) (λ s. omega arith) in
      let above = le-ltb (place_of o) (place_of x) (omega arith) in
      (rw other rest.0, rw (above, another, rest.1) refl)
]

both : (a b : Bool) → (a && b) ≡ true → (a ≡ true) × (b ≡ true)
both true true e = (refl, refl)
both true false e = absurd (false≢true e)
both false b e = absurd (false≢true e)

pub fetched : (v : ℕ) (os : List Open) → comes_last (opened v Background None) os ≡ true → backfilled v os ≡ os ++ opened v Background None ∷ []
fetched v os e =
    let h = both (ltb (length (backgrounds os)) 256) (is_none (first_from v Background os)) e in
    let last = behind (opened v Background None) os h.1 in
    let few = lt-leb 256 (length (backgrounds os)) (ltb-true (length (backgrounds os)) 256 h.0) in
    rw (last.0, few, last.1) refl

pub requested_last : (v : ℕ) (k : Kind) (t : Option ℕ) (os : List Open) → comes_last (opened v (Ancestry k) t) os ≡ true → (ancestry_full v k os ≡ false) × (requested v k t os ≡ os ++ opened v (Ancestry k) t ∷ [])
requested_last v k t os e =
    let h = both (ltb (length (ancestries os)) 64) (is_none (first_from v (Ancestry k) os)) e in
    let last = behind (opened v (Ancestry k) t) os h.1 in
    let few = lt-leb 64 (length (ancestries os)) (ltb-true (length (ancestries os)) 64 h.0) in
    (rw (last.0, few) refl, rw (last.0, last.1) refl)

pub placed_background : (o : Open) (os : List Open) → o.ask ≡ Background → Fitting o → comes_last o os ≡ true → backfilled o.view os ≡ os ++ o ∷ []
placed_background o os is fit last =
    let bare = subst (λ a. untargeted a o.target) is fit in
    let e : o ≡ opened o.view Background None = rw (is, bare) refl in
    subst (λ x. backfilled o.view os ≡ os ++ x ∷ []) (sym e) (fetched o.view os (subst (λ x. comes_last x os ≡ true) e last))

pub placed_ancestry : (o : Open) (k : Kind) (os : List Open) → o.ask ≡ Ancestry k → comes_last o os ≡ true → (ancestry_full o.view k os ≡ false) × (requested o.view k o.target os ≡ os ++ o ∷ [])
placed_ancestry o k os is last =
    let e : o ≡ opened o.view (Ancestry k) o.target = rw is refl in
    let h = requested_last o.view k o.target os (subst (λ x. comes_last x os ≡ true) e last) in
    (h.0, subst (λ x. requested o.view k o.target os ≡ os ++ x ∷ []) (sym e) h.1)

-- a request that finds room is not refused
pub opened_ok : (r : Result (Unit {0}) Fault) (full : Bool) (P : Type 0) (Q : Fault → Type 0) → full ≡ false → ((f : Fault) → Q f → full ≡ true) → MatchResult r (λ _. (full ≡ false) × P) Q → IsOk r × P
opened_ok (Ok u) full P Q e over m = (search rules, m.1)
opened_ok (Err f) full P Q e over m = absurd (both_ways full e (over f m))
