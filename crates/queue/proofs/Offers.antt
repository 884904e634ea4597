-- What an offer makes of a queue, test by test.
use Rattle.std.proofs.Common.{◌≡◌, ℕ, ◌<◌, true, false, cond, is_some, Some, None, Option, List, length, take, set, filter, get_or, refl, sym, ap, ◌∙◌, inl, inr, arith}
use Rattle.std.specs.List.{All}
use Rattle.std.specs.Prelude.{MatchOption, slice_get}
use Rattle.std.proofs.lemmas.Option.{slice_get_cases}
use Rattle.std.proofs.lemmas.Bool.{cases_Bool, leb-false, lt-ltb}
use Rattle.std.proofs.lemmas.List.{get_or-take, get_or_default, length-take}
use Rattle.std.proofs.lemmas.List.Elements.{All-set, All-get_or, filter_passes}
use Rattle.std.proofs.lemmas.List.Quantifiers.{position-Some}
use Rattle.std.proofs.Math.Seq.{take-set-lt}
use Rattle.record.specs.declared.kind.Kind.TheVariants.{Notarization, Nullification, Finalization}
use Rattle.queue.specs.declared.message.Message.{Message}
use Rattle.queue.specs.declared.message.Message.TheVariants.{Updated, Certified, Resolve, Replayed}
use Rattle.queue.specs.Messages.{view_of, is_marker, is_finalization, stays_past, repeats, asks_all, widened}
use Rattle.queue.specs.Queues.{Queue, is_outdated, may_wait, finalized, appended, found_at, is_repeated, merged, joined, offered}

pub offered_steps : {P : Type 0} (m : Message P) (q : Queue P) → offered m q ≡ cond (is_marker m) (appended m q) (cond (is_outdated (view_of m) q.finalization) q (cond (is_finalization m) (finalized m q) (joined m q)))
unfolding offered
offered_steps (Updated Notarization v p) q = refl
offered_steps (Updated Nullification v p) q = refl
offered_steps (Updated Finalization v p) q = refl
offered_steps (Certified k v s p) q = refl
offered_steps (Resolve w v k t) q = refl
offered_steps Replayed q = refl

-- what may wait beside what is held
pub marker_may_wait : {P : Type 0} (h : Option (Message P)) (m : Message P) → is_marker m ≡ true → may_wait h m ≡ true
marker_may_wait None m e = refl
marker_may_wait (Some f) m e = rw e refl

pub newer_may_wait : {P : Type 0} (h : Option (Message P)) (m : Message P) → is_outdated (view_of m) h ≡ false → may_wait h m ≡ true
newer_may_wait None m e = refl
newer_may_wait (Some f) m e =
    let newer = lt-ltb (view_of f) (view_of m) (leb-false (view_of m) (view_of f) e) in
    elim (cases_Bool (is_marker m)) [ inl t ↦ rw t refl | inr n ↦ rw n newer ]

same_element : {X : Type 0} (n : ℕ) (list : List X) (i : ℕ) (x y : X) → i < length (take n list) → get_or list i x ≡ get_or (take n list) i y
same_element n list i x y h =
    let within : i < n = omega (arith, h, length-take n list) in
    let long : i < length list = omega (arith, h, length-take n list) in
    get_or_default list i x y long ∙ sym (get_or-take n list i y within)

-- one that clears a target
pub wider_place : {P : Type 0} (m : Message P) (n : ℕ) (list : List (Message P)) (i : ℕ) (x w : Message P) → found_at m (take n list) ≡ Some i → asks_all m ≡ true → w ≡ widened (get_or list i x) → (is_repeated m (take n list) ≡ true) × (take n (set list i w) ≡ merged m (take n list))
wider_place m n list i x w e t is =
    let ms = take n list in
    let found = position-Some (λ o. repeats m o) ms i m e in
    let within : i < n = omega (arith, found.0, length-take n list) in
    let written : w ≡ widened (get_or ms i m) = is ∙ ap widened (same_element n list i x m found.0) in
    (ap is_some e, take-set-lt n list i w within ∙ rw t (rw e (ap (λ y. set ms i y) written)))

pub widened_past : {P : Type 0} (h : Option (Message P)) (m : Message P) → may_wait h (widened m) ≡ may_wait h m
widened_past None m = refl
widened_past (Some f) (Updated k v p) = refl
widened_past (Some f) (Certified k v s p) = refl
widened_past (Some f) (Resolve w v k t) = refl
widened_past (Some f) Replayed = refl

pub wider_past : {P : Type 0} (h : Option (Message P)) (m : Message P) (n : ℕ) (list : List (Message P)) (i : ℕ) (x w : Message P) → found_at m (take n list) ≡ Some i → w ≡ widened (get_or list i x) → All (λ o. may_wait h o ≡ true) (take n list) → All (λ o. may_wait h o ≡ true) (take n (set list i w))
wider_past h m n list i x w e is past =
    let ms = take n list in
    let found = position-Some (λ o. repeats m o) ms i m e in
    let within : i < n = omega (arith, found.0, length-take n list) in
    let own : may_wait h w ≡ true = ap (may_wait h) is ∙ widened_past h (get_or list i x) ∙ ap (may_wait h) (same_element n list i x m found.0) ∙ All-get_or (λ o. may_wait h o ≡ true) ms i m found.0 past in
    rw (take-set-lt n list i w within) (All-set (λ o. may_wait h o ≡ true) ms i w own past)

-- where a write clears a target
written : {P : Type 0} (list now : List (Message P)) (i : ℕ) → i < length list → MatchOption (slice_get list i) ⊥ (λ m. now ≡ set list i (widened m)) → (x : Message P) × (now ≡ set list i (widened (get_or list i x)))
written list now i h is = elim (slice_get_cases list i).1 [
  | inl s ↦
      let own : now ≡ set list i (widened s.0) = rw s.2 at is in
      (s.0, own ∙ ap (λ m. set list i (widened m)) (sym s.3))
  | inr s ↦ absurd (omega (arith, s.0, h))
]

within_list : {P : Type 0} (m : Message P) (n : ℕ) (list : List (Message P)) (i : ℕ) → found_at m (take n list) ≡ Some i → i < length list
within_list m n list i e = omega (arith, (position-Some (λ o. repeats m o) (take n list) i m e).0, length-take n list)

pub wider_write : {P : Type 0} (m : Message P) (n : ℕ) (list now : List (Message P)) (i : ℕ) → found_at m (take n list) ≡ Some i → asks_all m ≡ true → MatchOption (slice_get list i) ⊥ (λ o. now ≡ set list i (widened o)) → take n now ≡ merged m (take n list)
wider_write m n list now i e t is =
    let w = written list now i (within_list m n list i e) is in
    ap (take n) w.1 ∙ (wider_place m n list i w.0 (widened (get_or list i w.0)) e t refl).1

pub past_write : {P : Type 0} (h : Option (Message P)) (m : Message P) (n : ℕ) (list now : List (Message P)) (i : ℕ) → found_at m (take n list) ≡ Some i → MatchOption (slice_get list i) ⊥ (λ o. now ≡ set list i (widened o)) → All (λ o. may_wait h o ≡ true) (take n list) → All (λ o. may_wait h o ≡ true) (take n now)
past_write h m n list now i e is past =
    let w = written list now i (within_list m n list i e) is in
    rw w.1 (wider_past h m n list i w.0 (widened (get_or list i w.0)) e refl past)

-- what stays beside a new finalization
pub kept_past : {P : Type 0} (m : Message P) (h : Option (Message P)) (v : ℕ) (ms kept : List (Message P)) → h ≡ Some m → v ≡ view_of m → kept ≡ filter (λ o. stays_past v o) ms → All (λ o. may_wait h o ≡ true) kept
kept_past m h v ms kept e f is = rw (e, is, f) (filter_passes (λ o. stays_past (view_of m) o) ms)
