-- A view whose asks were all answered by what a peer served.
use Rattle.std.proofs.Common.{◌≡◌, ℕ, Bool, true, false, List, length, map, Some, Option, Ok, Err, Result, refl, sym, subst, arith, MatchResult}
use Rattle.std.proofs.lemmas.Grind.{common_steps}
use Rattle.std.specs.List.{AllByRecursion}
use Rattle.answers.specs.Answered.{done_of, judged_of}
use Rattle.answers.specs.declared.answered.Answered.TheVariants.{Judged as Told}
use Rattle.board.specs.Asks.{kind_of}
use Rattle.board.specs.Boards.{is_open}
use Rattle.board.specs.declared.ask.Ask.{Ask}
use Rattle.board.specs.declared.open.Open.{Open}
use Rattle.effects.specs.Lists.{places}
use Rattle.one_member.specs.Carried.{Carried, Same, valid}
use Rattle.one_member.specs.declared.member.Member.{Member}
use Rattle.orders.specs.Orders.{bring}
use Rattle.record.specs.Certificates.{kind_in, written}
use Rattle.record.specs.Format.{reading}
use Rattle.record.specs.declared.certificate.Certificate.{Certificate}
use Rattle.resolver.specs.Calls.{Judged}
use Rattle.resolver.specs.Deliveries.{settled_asks, delivery_answer, delivery_test, tested}
use Rattle.resolver.specs.declared.fault.Fault.{Fault}
use Rattle.resolver.specs.declared.outcome.Delivered.{Delivered}
use Rattle.resolver.specs.declared.outcome.Outcome.{Outcome}
use Rattle.resolver.specs.declared.outcome.Outcome.TheVariants.{Ignored, Invalid, Unresolved, Partial, Complete, LetGo}
use Rattle.state.specs.Settled.{settled}
use Rattle.state.specs.States.{held, term, fits}
use Rattle.store.specs.Steps.{updated}
use Rattle.peer_rounds.specs.Laws.{SettledIsClosed, AllClosed, completes, is_complete}
use Rattle.peer_rounds.specs.Puts.{ask_in, is_new, PassedIf, CameOf}
use Rattle.peer_rounds.specs.declared.asked.Came.{Came}
use Rattle.peer_rounds.specs.declared.asked.Came.TheVariants.{Nothing, Brought}
use Rattle.peer_rounds.proofs.Completed.{answer_complete, tested_later, all_pass, each_more, of_asks}

judged_as : (answer : Result Delivered Fault) (d : Delivered) → Told d ≡ judged_of answer → answer ≡ Ok d
judged_as (Ok x) d e = grind (arith, common_steps)
judged_as (Err f) d e = absurd (grind (arith, common_steps))

same_record : (c r : Certificate) (x : Option Certificate) → x ≡ Some c → x ≡ Some r → r ≡ c
same_record c r x e f = grind (arith, common_steps)

module _ {B : Type 0} (asks : B → List Open) where
  -- after a delivery whose outcome is Complete each of its asks is settled
  pub settled_after : (d : Delivered) → d.outcome ≡ Complete → (m k : Member B) (v : ℕ) (qs : List Ask) (bs : List ℕ) → Carried asks (Told d) m k (bring v qs bs) → AllByRecursion (λ a. settled (term k.resolver.calls.state) (kind_of a) v (held k.resolver.calls.state) ≡ true) qs
  settled_after d complete m k v qs bs del =
      let L = term m.resolver.calls.state in
      let answer = tested (delivery_test (fits m.resolver.calls.state) (places m.effects) qs) (delivery_answer L kind_in qs v (valid asks (Told d) m k v) (reading bs) (held m.resolver.calls.state)) in
      let is = judged_as answer d del.told in
      let found = answer_complete L kind_in qs v (held m.resolver.calls.state) d complete (valid asks (Told d) m k v) (reading bs) (tested_later (delivery_test (fits m.resolver.calls.state) (places m.effects) qs) _ d is) in
      let told = rw is at del.outcome in
      let took = rw found.2.taken at told in
      let record_is = same_record took.0 found.0 _ took.1 found.1 in
      let all : settled_asks L v qs (held k.resolver.calls.state) ≡ length qs = subst (λ s. settled_asks L v qs s ≡ length qs) (sym took.2.state.values) (subst (λ c. settled_asks L v qs (updated L (kind_in c) c (held m.resolver.calls.state)) ≡ length qs) record_is found.2.all) in
      subst (λ n. AllByRecursion (λ a. settled n (kind_of a) v (held k.resolver.calls.state) ≡ true) qs) (sym took.2.state.fixed.term) (all_pass (λ a. settled L (kind_of a) v (held k.resolver.calls.state)) qs all)

  -- what is settled stays so when a notarization passes
  pub stays_settled : (new : Bool) (c : Certificate) (p : Option (Result (Unit {0}) Fault)) (k n : Member B) → PassedIf asks new c p k n → (v : ℕ) (a : Ask) → settled (term k.resolver.calls.state) (kind_of a) v (held k.resolver.calls.state) ≡ true → settled (term n.resolver.calls.state) (kind_of a) v (held n.resolver.calls.state) ≡ true
  stays_settled false c p k n passed v a t = subst (λ x. settled (term x.resolver.calls.state) (kind_of a) v (held x.resolver.calls.state) ≡ true) (sym passed.1) t
  stays_settled true given p k n passed v a t = go passed.2.result passed.2.outcome
    where
      go : (r : Result (Unit {0}) Fault) → MatchResult r (λ _. (c : Certificate) × (reading (written given) ≡ Ok c) × Judged k.resolver.calls.state n.resolver.calls.state k.effects n.effects (asks k.board) (asks n.board) true c) (λ _. Same asks (done_of passed.0) k n) → settled (term n.resolver.calls.state) (kind_of a) v (held n.resolver.calls.state) ≡ true
      go (Ok x) o = subst (λ l. settled l (kind_of a) v (held n.resolver.calls.state) ≡ true) (sym o.2.state.fixed.term) (o.2.state.promises.settled_only_grows (kind_of a) v t)
      go (Err f) o = subst (λ x. settled (term x) (kind_of a) v (held x) ≡ true) (sym o.state.state) t

completed : (o : Outcome) → completes o ≡ true → o ≡ Complete
completed Ignored e = absurd (grind (arith, common_steps))
completed Invalid e = absurd (grind (arith, common_steps))
completed Unresolved e = absurd (grind (arith, common_steps))
completed Partial e = absurd (grind (arith, common_steps))
completed Complete e = refl
completed LetGo e = absurd (grind (arith, common_steps))

-- each of the asks that were put is closed, where what came back answered all
pub all_closed : {B C : Type 0} (asks : B → List Open) (peer : Member C) (v : ℕ) (os : List Open) (came : Came) (m n : Member B) → CameOf asks peer v (map ask_in os) came m n → SettledIsClosed asks n → is_complete came ≡ true → AllClosed asks v os n
all_closed asks peer v os Nothing m n c closed e = absurd (grind (arith, common_steps))
all_closed asks peer v os (Brought r (Err f) p) m n c closed e = absurd (grind (arith, common_steps))
all_closed asks peer v os (Brought r (Ok d) p) m n c closed e =
    let b = c.1 in
    let settled_there = settled_after asks d (completed d.outcome e) m b.between v (map ask_in os) (written r) b.delivered in
    of_asks (λ a. is_open v a (asks n.board) ≡ false) os
    (each_more (λ a. settled (term b.between.resolver.calls.state) (kind_of a) v (held b.between.resolver.calls.state) ≡ true) (λ a. is_open v a (asks n.board) ≡ false) (λ a t. closed v a (stays_settled asks (is_new r (Ok d)) r p b.between n b.passed v a t)) (map ask_in os) settled_there)
