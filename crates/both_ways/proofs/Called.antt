-- What was called says what the messages say.
use Rattle.std.proofs.Common.{◌≡◌, ℕ, ◌<◌, Bool, true, false, cond, ltb, List, [], ◌∷◌, ◌++◌, Ok, Err, Result, Option, IfOk, sym, refl, ◌∙◌, subst, inl, inr, arith}
use Rattle.std.proofs.lemmas.Bool.{cases_Bool}
use Rattle.std.proofs.lemmas.Grind.{common_steps}
use Rattle.effects.specs.declared.effect.Kind.{Kind as Ask}
use Rattle.queue.specs.declared.message.Message.{Message}
use Rattle.queue.specs.declared.message.Message.TheVariants.{Updated, Certified, Resolve, Replayed}
use Rattle.record.specs.declared.fault.Fault.{Fault as Misread}
use Rattle.record.specs.declared.kind.Kind.{Kind}
use Rattle.resolver.specs.Calls.{answer_of}
use Rattle.state.specs.Answers.{Answer, refused_if, if_read}
use Rattle.state.specs.declared.fault.Fault.TheVariants.{TooFewPlaces}
use Rattle.history.specs.Calls.{Call, marker, request, settles}
use Rattle.history.specs.Events.{Event, calls, accepted, Use, Answers, AllAnswer}
use Rattle.history.specs.Rules.{request_rule}
use Rattle.both_ways.specs.Runs.{Called, CalledInOrder, none_called, called_next, said_by, said, Carries, AllCarry}
use Rattle.both_ways.proofs.Absorbed.{settled_request}
use Rattle.both_ways.proofs.Queued.{said_more, same_all, sound_append}
use Rattle.both_ways.proofs.Same.{Same, same_refl, same_sym, same_trans, same_more, same_settles}
use Rattle.both_ways.proofs.Waiting.{Sound, AllSound}

-- what was not refused was a record
readable : {R : Type 0} (few : Bool) (read : Result R Misread) (later : R → Answer) → Ok tt ≡ answer_of (refused_if few TooFewPlaces (if_read read later)) → (x : R) × (read ≡ Ok x)
readable few (Ok x) later e = (x, refl)
readable true (Err f) later e = absurd (let w = e in grind (arith, common_steps))
readable false (Err f) later e = absurd (let w = e in grind (arith, common_steps))

module _ {R P : Type 0} (read : P → Result R Misread) (viewed : R → ℕ) (sort : R → Kind) (era : R → ℕ) (u : Use R) (positive : 0 < u.length) where
  of_record : (few : Bool) (r : Result R Misread) (k : Kind) (v : ℕ) (later : R → Answer) → Ok tt ≡ answer_of (refused_if few TooFewPlaces (if_read r later)) → IfOk r (λ x. (sort x ≡ k) × (viewed x ≡ v)) → (x : R) × (r ≡ Ok x) × (sort x ≡ k) × (viewed x ≡ v)
  of_record few (Ok x) k v later e c = (x, refl, c.0, c.1)
  of_record few (Err f) k v later e c = absurd (let x = readable few (Err f) later e in let w = x.1 in grind (arith, common_steps))

  sound_called : (m : Message P) (e : Event R) (h : List (Call R)) → Called read m e → Answers viewed sort era u e h → Carries read viewed sort m → Sound read viewed sort m
  sound_called (Updated k v p) e h called answers carries = of_record _ (read p) k v _ (subst (λ ev. Answers viewed sort era u ev h) called.1 answers) carries
  sound_called (Certified k v b p) e h called answers carries = of_record _ (read p) k v _ (subst (λ ev. Answers viewed sort era u ev h) called.1 answers) carries
  sound_called (Resolve w v k t) e h called answers carries = tt
  sound_called Replayed e h called answers carries = tt

  -- one request more, by its answer
  same_request : (yes : Bool) (w v : ℕ) (k : Ask) (t : Option ℕ) (b h : List (Call R)) → Ok yes ≡ request_rule viewed sort u.length w v k h → Same viewed sort u.length b h → Same viewed sort u.length (cond (ltb v w) (request v k t ∷ []) [] ++ b) (cond yes (request v k t ∷ []) [] ++ h)
  same_request true w v k t b h answer s = let below : ltb v w ≡ true = grind (arith, common_steps) in rw below (same_more viewed sort u.length (request v k t) b h s)
  same_request false w v k t b h answer s = elim (cases_Bool (ltb v w)) [
    | inl below ↦
        let done : settles viewed sort u.length k v h ≡ true = grind (arith, common_steps) in
        rw below (same_trans viewed sort u.length _ _ _ (same_sym viewed sort u.length _ _ (settled_request viewed sort u.length positive v k t b (sym (same_settles viewed sort u.length b h s k v) ∙ done))) s)
    | inr not_below ↦ rw not_below s
  ]

  -- one call more
  same_called : (m : Message P) (e : Event R) (b h : List (Call R)) → Called read m e → Answers viewed sort era u e h → Same viewed sort u.length b h → Same viewed sort u.length (said_by read m ++ b) (accepted e ++ h)
  same_called (Updated k v p) e b h called answers s = rw called.1 (same_all read viewed sort u.length positive (said_by read (Updated k v p)) b h s)
  same_called (Certified k v d p) e b h called answers s = rw called.1 (same_all read viewed sort u.length positive (said_by read (Certified k v d p)) b h s)
  same_called (Resolve w v k t) e b h called answers s = rw called.1 (same_request called.0 w v k t b h (subst (λ ev. Answers viewed sort era u ev h) called.1 answers) s)
  same_called Replayed e b h called answers s = rw called.1 (same_more viewed sort u.length marker b h s)

  carry_parts : (ms : List (Message P)) (m : Message P) → AllCarry read viewed sort (ms ++ m ∷ []) → AllCarry read viewed sort ms × Carries read viewed sort m
  carry_parts [] m c = (tt, c.0)
  carry_parts (x ∷ ms) m c = let p = carry_parts ms m c.1 in ((c.0, p.0), p.1)

  -- all of them
  pub all_called : (ms : List (Message P)) (h : List (Event R)) → CalledInOrder read ms h → AllAnswer viewed sort era u h → Same viewed sort u.length (said read ms) (calls h)
  unfolding said calls AllAnswer
  all_called _ _ none_called answers = same_refl viewed sort u.length []
  all_called _ _ (called_next {ms} {h} m e past called) answers = subst (λ b. Same viewed sort u.length b (accepted e ++ calls h)) (sym (said_more read viewed sort u.length positive ms m)) (same_called m e (said read ms) (calls h) called answers.0 (all_called ms h past answers.1))

  pub all_sound : (ms : List (Message P)) (h : List (Event R)) → CalledInOrder read ms h → AllAnswer viewed sort era u h → AllCarry read viewed sort ms → AllSound read viewed sort ms
  unfolding AllAnswer
  all_sound _ _ none_called answers carries = tt
  all_sound _ _ (called_next {ms} {h} m e past called) answers carries =
      let p = carry_parts ms m carries in
      sound_append read viewed sort u.length positive ms (m ∷ []) (all_sound ms h past answers.1 p.0) (sound_called m e (calls h) called answers.0 p.1, tt)
