-- What every queue keeps, whatever is offered and taken out.
use Rattle.std.proofs.Common.{◌≡◌, ℕ, ◌-◌, ◌<◌, ◌≤◌, true, Some, None, Option, List, [], ◌∷◌, length, set, get_or, refl, ◌∙◌, inl, inr, ◌⊎◌, arith, length-set, length-append, length-take, length-drop, eqb, not}
use Rattle.std.proofs.lemmas.List.Filters.{length-filter_both}
use Rattle.std.specs.List.{All}
use Rattle.std.proofs.lemmas.Bool.{cases_Bool, leb-false}
use Rattle.std.proofs.lemmas.List.Elements.{All-set, All-get_or, All-push, filter_passes}
use Rattle.std.proofs.lemmas.List.Quantifiers.{position-Some}
use Rattle.queue.specs.declared.message.Message.{Message}
use Rattle.queue.specs.declared.pending.Pending.{Pending}
use Rattle.queue.specs.Messages.{view_of, is_marker, is_finalization, stays_past, repeats, asks_all, widened}
use Rattle.queue.specs.Pendings.{queue_of}
use Rattle.queue.specs.Queues.{Queue, is_outdated, is_proper, may_wait, is_full, finalized, appended, found_at, is_repeated, merged, joined, offered, finds_full, drained, drained_from}
use Rattle.queue.proofs.Offers.{offered_steps, marker_may_wait, newer_may_wait, widened_past}

-- at most 64 messages wait, a finalization alone is held, and what waits beside it is past it or the marker
pub record Kept {P : Type 0} (q : Queue P) : Type 0 where
  pub few : length q.messages ≤ 64
  pub proper : is_proper q.finalization ≡ true
  pub past : All (λ m. may_wait q.finalization m ≡ true) q.messages

pub kept : {P : Type 0} (p : Pending P) → Kept (queue_of p)
kept p = record { few = omega (arith, length-take p.len p.messages.now, p.few); proper = p.proper; past = p.past }

kept_appended : {P : Type 0} (m : Message P) (q : Queue P) → Kept q → may_wait q.finalization m ≡ true → Kept (appended m q)
kept_appended m q k w = elim (cases_Bool (is_full q)) [
  | inl t ↦ rw t k
  | inr f ↦ rw f (record {
    few = omega (arith, leb-false 64 (length q.messages) f, length-append q.messages (m ∷ []));
    proper = k.proper;
    past = All-push (λ o. may_wait q.finalization o ≡ true) q.messages m k.past w;
  })
]

kept_finalized : {P : Type 0} (m : Message P) (q : Queue P) → Kept q → is_finalization m ≡ true → Kept (finalized m q)
kept_finalized m q k f = record {
  few = omega (arith, length-filter_both (λ o. stays_past (view_of m) o) (λ o. not (stays_past (view_of m) o)) (λ _. refl) q.messages, k.few);
  proper = f;
  past = filter_passes (λ o. stays_past (view_of m) o) q.messages;
}

kept_set : {P : Type 0} (q : Queue P) (i : ℕ) (x : Message P) → Kept q → i < length q.messages → Kept (record { finalization = q.finalization; messages = set q.messages i (widened (get_or q.messages i x)) })
kept_set q i x k h =
    let y = get_or q.messages i x in
    record {
      few = omega (arith, length-set q.messages i (widened y), k.few);
      proper = k.proper;
      past = All-set (λ o. may_wait q.finalization o ≡ true) q.messages i (widened y) (widened_past q.finalization y ∙ All-get_or (λ o. may_wait q.finalization o ≡ true) q.messages i x h k.past) k.past;
    }

none_or_some : (o : Option ℕ) → (o ≡ None) ⊎ ((i : ℕ) × (o ≡ Some i))
none_or_some None = inl refl
none_or_some (Some i) = inr (i, refl)

kept_merged : {P : Type 0} (m : Message P) (q : Queue P) → Kept q → Kept (record { finalization = q.finalization; messages = merged m q.messages })
kept_merged m q k = elim (cases_Bool (asks_all m)) [
  | inr f ↦ rw f k
  | inl t ↦ elim (none_or_some (found_at m q.messages)) [
    | inl n ↦ rw t (rw n k)
    | inr s ↦ rw t (rw s.1 (kept_set q s.0 m k (position-Some (λ o. repeats m o) q.messages s.0 m s.1).0))
  ]
]

kept_joined : {P : Type 0} (m : Message P) (q : Queue P) → Kept q → may_wait q.finalization m ≡ true → Kept (joined m q)
kept_joined m q k w = elim (cases_Bool (is_repeated m q.messages)) [
  | inl t ↦ rw t (kept_merged m q k)
  | inr f ↦ rw f (kept_appended m q k w)
]

pub kept_offered : {P : Type 0} (m : Message P) (q : Queue P) → Kept q → Kept (offered m q)
kept_offered m q k = rw (offered_steps m q) (elim (cases_Bool (is_marker m)) [
  | inl t ↦ rw t (kept_appended m q k (marker_may_wait q.finalization m t))
  | inr n ↦ rw n (elim (cases_Bool (is_outdated (view_of m) q.finalization)) [
    | inl o ↦ rw o k
    | inr c ↦ rw c (elim (cases_Bool (is_finalization m)) [
      | inl f ↦ rw f (kept_finalized m q k f)
      | inr g ↦ rw g (kept_joined m q k (newer_may_wait q.finalization m c))
    ])
  ])
])

kept_from : {P : Type 0} (n : ℕ) (h : Option (Message P)) (ms : List (Message P)) → Kept (record { finalization = h; messages = ms }) → Kept (drained_from n h ms).1
kept_from n None ms k = record { few = omega (arith, length-drop n ms, k.few); proper = refl; past = λ i d h. refl }
kept_from n (Some f) ms k = elim (cases_Bool (eqb n 0)) [
  | inl t ↦ rw t k
  | inr g ↦ rw g (record { few = omega (arith, length-drop (n - 1) ms, k.few); proper = refl; past = λ i d h. refl })
]

pub kept_drained : {P : Type 0} (n : ℕ) (q : Queue P) → Kept q → Kept (drained n q).1
unfolding drained
kept_drained n q k = kept_from n q.finalization q.messages k

-- a refused offer changes nothing
pub refused_same : {P : Type 0} (m : Message P) (q : Queue P) → finds_full m q ≡ true → offered m q ≡ q
refused_same m q e = grind (arith, offered_steps)
