-- Messages that are offered one after the other.
use Rattle.std.proofs.Common.{Err, List, None, Ok, Option, Result, Some, [], ap, append-nil, append_assoc, arith, eqb, false, get_or, inl, inr, length, min, refl, subst, suc, sym, take, true, ℕ, ◌++◌, ◌+◌, ◌-◌, ◌<◌, ◌∙◌, ◌∷◌, ◌≡◌}
use Rattle.std.proofs.lemmas.Bool.{cases_Bool, eqb-true}
use Rattle.std.proofs.lemmas.Grind.{common_steps}
use Rattle.std.proofs.lemmas.List.{drop_all, take_more, get_or_default}
use Rattle.board.specs.declared.open.Open.{Open}
use Rattle.both_ways.specs.declared.fault.Fault.{Fault}
use Rattle.both_ways.specs.declared.fault.Fault.TheVariants.{Resolver as OfResolver, Queue as OfQueue}
use Rattle.queue.proofs.Laws.{Kept, refused_same}
use Rattle.queue.specs.Queues.{Queue, offered, finds_full, offer_answer, drained, drained_from}
use Rattle.queue.specs.declared.fault.Fault.{Fault as QueueFault}
use Rattle.queue.specs.declared.fault.Fault.TheVariants.{Full}
use Rattle.queue.specs.declared.message.Message.{Message}
use Rattle.queue.specs.declared.message.Message.TheVariants.{Replayed}
use Rattle.record.specs.declared.fault.Fault.{Fault as Misread}
use Rattle.record.specs.declared.kind.Kind.{Kind}
use Rattle.resolver.specs.declared.fault.Fault.{Fault as Refused}
use Rattle.state.specs.declared.state.State.{State}
use Rattle.views.specs.declared.Viewable as viewable
use Rattle.both_ways.specs.Calling.{AllCalled, StopsAt}
use Rattle.both_ways.specs.Ends.{Emptied}
use Rattle.both_ways.specs.Queueing.{so_far, AllThrough, FullAt, RefusedAt, Stops}
use Rattle.both_ways.specs.Runs.{CalledInOrder, Through, offered_next, emptied}

taken : {P : Type 0} (m : Message P) (q : Queue P) (r : Result (Unit {0}) QueueFault) → r ≡ offer_answer m q → r ≡ Ok tt → finds_full m q ≡ false
taken m q r answer a = grind (arith, common_steps)

module _ {R P : Type 0} {g : viewable.Ghosts R} (read : P → Result R Misread) (sort : R → Kind) (era : R → ℕ) where
  pub none_offered_yet : (q : Queue P) (s : State R g) (os : List Open) → AllThrough read sort era [] [] q q s s os os
  none_offered_yet q s os u before came h past called reached =
      let same = sym (append-nil came) in
      (h, subst (λ ms. Through ms (came ++ []) q) (sym (append-nil before)) (subst (λ out. Through before out q) same past), subst (λ out. CalledInOrder read out h) same called, reached)

  pub all_offered : (ms ns out more : List (Message P)) (q q' q'' : Queue P) (s s' s'' : State R g) (os os' os'' : List Open) → AllThrough read sort era ms out q q' s s' os os' → AllThrough read sort era ns more q' q'' s' s'' os' os'' → AllThrough read sort era (ms ++ ns) (out ++ more) q q'' s s'' os os''
  all_offered ms ns out more q q' q'' s s' s'' os os' os'' a b u before came h past called reached =
      let x = a u before came h past called reached in
      let y = b u (before ++ ms) (came ++ out) x.0 x.1 x.2 x.3 in
      let all = append_assoc came out more in
      (y.0, subst (λ xs. Through xs (came ++ (out ++ more)) q'') (append_assoc before ms ns) (subst (λ xs. Through ((before ++ ms) ++ ns) xs q'') all y.1), subst (λ xs. CalledInOrder read xs y.0) all y.2, y.3)

  -- one message, where the queue takes it, and what came out of it
  just_offered : (m : Message P) (q : Queue P) (s : State R g) (os : List Open) → finds_full m q ≡ false → AllThrough read sort era (m ∷ []) [] q (offered m q) s s os os
  just_offered m q s os room u before came h past called reached =
      let same = sym (append-nil came) in
      (h, subst (λ out. Through (before ++ m ∷ []) out (offered m q)) same (offered_next m past room), subst (λ out. CalledInOrder read out h) same called, reached)

  just_emptied : (n : ℕ) (q : Queue P) (s s' : State R g) (os os' : List Open) → AllCalled read sort era (drained n q).0 s s' os os' → AllThrough read sort era [] (drained n q).0 q (drained n q).1 s s' os os'
  just_emptied n q s s' os os' all u before came h past called reached =
      let x = all u came h called reached in
      (x.0, subst (λ ms. Through ms (came ++ (drained n q).0) (drained n q).1) (sym (append-nil before)) (emptied n past), x.1, x.2)

  module _ (m : Message P) (q q' : Queue P) (r : Result (Unit {0}) QueueFault) (answer : r ≡ offer_answer m q) (is : q' ≡ offered m q) where
    module _ (n : ℕ) (q'' : Queue P) (left : q'' ≡ (drained n q').1) (s s' : State R g) (os os' : List Open) where
      pub one_offered : r ≡ Ok tt → AllCalled read sort era (drained n q').0 s s' os os' → AllThrough read sort era (m ∷ []) (drained n (offered m q)).0 q q'' s s' os os'
      one_offered a all = subst (λ r. AllThrough read sort era (m ∷ []) (drained n r).0 q q'' s s' os os') is (rw left (all_offered (m ∷ []) [] [] (drained n q').0 q q' (drained n q').1 s s s' os os os' (rw is (just_offered m q s os (taken m q r answer a))) (just_emptied n q' s s' os os' all)))

      pub one_refused : r ≡ Ok tt → (f : Refused) → StopsAt read sort era (drained n q').0 f s s' os os' → RefusedAt read sort era (m ∷ []) f q q'' s s' os os'
      one_refused a f stops = record {
        first = m ∷ [];
        others = [];
        are = refl;
        out = [];
        queue = q';
        state = s;
        asks = os;
        offered = rw is (just_offered m q s os (taken m q r answer a));
        places = n;
        left = left;
        stops = stops;
      }

    pub one_full : (s : State R g) (os : List Open) (f : QueueFault) → r ≡ Err f → (f ≡ Full) × FullAt read sort era (m ∷ []) q q' s s os os
    one_full s os f e =
        let full : finds_full m q ≡ true = grind (arith, common_steps) in
        let same : q' ≡ q = is ∙ refused_same m q full in
        (grind (arith, common_steps), record { first = []; refused = m; others = []; are = refl; out = []; offered = subst (λ r. AllThrough read sort era [] [] q r s s os os) (sym same) (none_offered_yet q s os); full = rw same full })

  -- of several the first, and one more
  pub one_more_offered : (ms : List (Message P)) (cuts : List ℕ) (places : ℕ) (q q' q'' : Queue P) (s s' s'' : State R g) (os os' os'' : List Open) (i : ℕ) (d : Message P) (k : ℕ)
      → i < length ms → k ≡ min (get_or cuts i 0) places
      → AllThrough read sort era (take i ms) (so_far ms cuts places q i).0 q q' s s' os os' → q' ≡ (so_far ms cuts places q i).1
      → AllThrough read sort era (get_or ms i d ∷ []) (drained k (offered (get_or ms i d) q')).0 q' q'' s' s'' os' os'' → q'' ≡ (drained k (offered (get_or ms i d) q')).1
      → AllThrough read sort era (take (i + 1) ms) (so_far ms cuts places q (i + 1)).0 q q'' s s'' os os'' × (q'' ≡ (so_far ms cuts places q (i + 1)).1)
  unfolding so_far
  one_more_offered ms cuts places q q' q'' s s' s'' os os' os'' i d k within len a is b left =
      let e : i + 1 ≡ suc i = omega arith in
      let m = get_or_default ms i d Replayed within in
      let next : (drained k (offered (get_or ms i d) q')) ≡ drained (min (get_or cuts i 0) places) (offered (get_or ms i Replayed) (so_far ms cuts places q i).1) = rw (len, m, is) refl in
      rw e (
        subst (λ xs. AllThrough read sort era (take (suc i) ms) ((so_far ms cuts places q i).0 ++ xs.0) q q'' s s'' os os'') next (subst (λ xs. AllThrough read sort era xs ((so_far ms cuts places q i).0 ++ (drained k (offered (get_or ms i d) q')).0) q q'' s s'' os os'') (sym (take_more ms i d within) ∙ ap (λ n. take n ms) e) (all_offered (take i ms) (get_or ms i d ∷ []) (so_far ms cuts places q i).0 (drained k (offered (get_or ms i d) q')).0 q q' q'' s s' s'' os os' os'' a b)),
        left ∙ ap (λ xs. xs.1) next,
      )

  -- where the first of them were offered and a later one stops
  pub stops_later : (ms ns all out : List (Message P)) (q q' q'' : Queue P) (s s' s'' : State R g) (os os' os'' : List Open) (more : List (Message P)) (f : Fault) → all ≡ ms ++ (ns ++ more) → AllThrough read sort era ms out q q' s s' os os' → Stops read sort era ns f q' q'' s' s'' os' os'' → Stops read sort era all f q q'' s s'' os os''
  stops_later ms ns all out q q' q'' s s' s'' os os' os'' more (OfQueue f) are a (is, stop) = (
    is,
    record {
      first = ms ++ stop.first;
      refused = stop.refused;
      others = stop.others ++ more;
      are = are ∙ ap (λ xs. ms ++ (xs ++ more)) stop.are ∙ ap (λ xs. ms ++ xs) (append_assoc stop.first (stop.refused ∷ stop.others) more) ∙ sym (append_assoc ms stop.first (stop.refused ∷ (stop.others ++ more)));
      out = out ++ stop.out;
      offered = all_offered ms stop.first out stop.out q q' q'' s s' s'' os os' os'' a stop.offered;
      full = stop.full;
    },
  )
  stops_later ms ns all out q q' q'' s s' s'' os os' os'' more (OfResolver f) are a stop = record {
    first = ms ++ stop.first;
    others = stop.others ++ more;
    are = are ∙ ap (λ xs. ms ++ (xs ++ more)) stop.are ∙ ap (λ xs. ms ++ xs) (append_assoc stop.first stop.others more) ∙ sym (append_assoc ms stop.first (stop.others ++ more));
    out = out ++ stop.out;
    queue = stop.queue;
    state = stop.state;
    asks = stop.asks;
    offered = all_offered ms stop.first out stop.out q q' stop.queue s s' stop.state os os' stop.asks a stop.offered;
    places = stop.places;
    left = stop.left;
    stops = stop.stops;
  }

  -- where all were offered, and the last that came out was refused
  pub refused_last : (ms out : List (Message P)) (n : ℕ) (q q' q'' : Queue P) (s s' s'' : State R g) (os os' os'' : List Open) (f : Refused) → AllThrough read sort era ms out q q' s s' os os' → q'' ≡ (drained n q').1 → StopsAt read sort era (drained n q').0 f s' s'' os' os'' → RefusedAt read sort era ms f q q'' s s'' os os''
  refused_last ms out n q q' q'' s s' s'' os os' os'' f a left stops = record {
    first = ms;
    others = [];
    are = sym (append-nil ms);
    out = out;
    queue = q';
    state = s';
    asks = os';
    offered = a;
    places = n;
    left = left;
    stops = stops;
  }

  -- where all were offered, and all that waited came out
  pub offered_and_emptied : (ms : List (Message P)) (before : List (Message P) × Queue P) (n m : ℕ) (q q' q'' : Queue P) (s s' s'' : State R g) (os os' os'' : List Open) → n ≡ m → q' ≡ before.1 → AllThrough read sort era ms before.0 q q' s s' os os' → q'' ≡ (drained n q').1 → AllCalled read sort era (drained n q').0 s' s'' os' os'' → AllThrough read sort era ms (before.0 ++ (drained m before.1).0) q q'' s s'' os os''
  offered_and_emptied ms before n m q q' q'' s s' s'' os os' os'' same is a left all =
      subst (λ r. AllThrough read sort era ms (before.0 ++ (drained m r).0) q q'' s s'' os os'') is
      (subst (λ k. AllThrough read sort era ms (before.0 ++ (drained k q').0) q q'' s s'' os os'') same
      (rw left (subst (λ xs. AllThrough read sort era xs (before.0 ++ (drained n q').0) q (drained n q').1 s s'' os os'') (append-nil ms) (all_offered ms [] before.0 (drained n q').0 q q' (drained n q').1 s s' s'' os os' os'' a (just_emptied n q' s' s'' os' os'' all)))))

-- a list as long as all that may wait takes all
emptied_from : {P : Type 0} (n : ℕ) (f : Option (Message P)) (ms : List (Message P)) → length ms < n → Emptied (drained_from n f ms).1
emptied_from n None ms short = record { finalization = refl; messages = drop_all n ms (omega arith) }
emptied_from n (Some f) ms short = elim (cases_Bool (eqb n 0)) [
  | inl zero' ↦ absurd (omega (arith, eqb-true n 0 zero'))
  | inr more ↦ rw more (record { finalization = refl; messages = drop_all (n - 1) ms (omega arith) })
]

pub all_emptied : {P : Type 0} (n : ℕ) (q q' : Queue P) → Kept q → 64 < n → q' ≡ (drained n q).1 → Emptied q'
unfolding drained
all_emptied n q q' k long is = rw is (emptied_from n q.finalization q.messages (omega (arith, k.few)))
