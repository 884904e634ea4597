-- Messages that are called as they come, and messages that wait in a queue between.
use Rattle.std.specs.Prelude.{◌≡◌, ℕ, Bool, true, false, cond, ◌&&◌, List, [], ◌∷◌, ◌++◌, None, Ok, Result, IfOk, ◌==◌, nat_lt}
use Rattle.record.specs.declared.fault.Fault.{Fault as Misread}
use Rattle.record.specs.declared.kind.Kind.{Kind}
use Rattle.queue.specs.Queues.{Queue, offered, finds_full, drained}
use Rattle.queue.specs.declared.message.Message.{Message}
use Rattle.queue.specs.declared.message.Message.TheVariants.{Updated, Certified, Resolve, Replayed}
use Rattle.history.specs.Calls.{Call, evidence, verdict, marker, request, is_finalization, some, by_evidence, passed, failed, covered}
use Rattle.history.specs.Events.{Event, updated, certified, replayed, resolved, if_record}

-- `read` is what the payload of a message is: a record, or why it is none
module _ {R P : Type 0} (read : P → Result R Misread) where
  -- an event is the call that a message asks for, and it was not refused
  abbrev pub Called : Message P → Event R → Type 0
  Called (Updated k v p) e = (n : ℕ) × (e ≡ updated (read p) n (Ok tt))
  Called (Certified k v b p) e = (n : ℕ) × (e ≡ certified b (read p) n (Ok tt))
  Called (Resolve w v k t) e = (b : Bool) × (e ≡ resolved w v k t (Ok b))
  Called Replayed e = (n : ℕ) × (e ≡ replayed n (Ok tt))

  -- these messages were called, one after the other, and no other call was made
  pub data CalledInOrder : List (Message P) → List (Event R) → Type 0 where
    none_called : CalledInOrder [] []
    called_next : {ms : List (Message P)} {h : List (Event R)} (m : Message P) (e : Event R) → CalledInOrder ms h → Called m e → CalledInOrder (ms ++ m ∷ []) (e ∷ h)

  -- what a message says, and what messages in their order say, newest first
  abbrev pub said_by : Message P → List (Call R)
  said_by (Updated k v p) = if_record (read p) evidence
  said_by (Certified k v b p) = if_record (read p) (verdict b)
  said_by (Resolve w v k t) = cond (nat_lt v w) (request v k t ∷ []) []
  said_by Replayed = marker ∷ []

  unfoldable pub said : List (Message P) → List (Call R)
  said [] = []
  said (m ∷ ms) = said ms ++ said_by m

  module _ (viewed : R → ℕ) (sort : R → Kind) where
    -- the kind and the view beside a record are its own
    abbrev pub Carries : Message P → Type 0
    Carries (Updated k v p) = IfOk (read p) (λ x. (sort x ≡ k) × (viewed x ≡ v))
    Carries (Certified k v b p) = IfOk (read p) (λ x. (sort x ≡ k) × (viewed x ≡ v))
    Carries (Resolve w v k t) = Unit {0}
    Carries Replayed = Unit {0}

    abbrev pub AllCarry : List (Message P) → Type 0
    AllCarry [] = Unit {0}
    AllCarry (m ∷ ms) = Carries m × AllCarry ms

-- messages are offered to a queue, which is emptied at any time into lists of any length; what comes out is called
pub data Through {P : Type 0} : List (Message P) → List (Message P) → Queue P → Type 0 where
  nothing_offered : Through [] [] (record { finalization = None; messages = [] })
  offered_next : {ms cs : List (Message P)} {q : Queue P} (m : Message P) → Through ms cs q → finds_full m q ≡ false → Through (ms ++ m ∷ []) cs (offered m q)
  emptied : {ms cs : List (Message P)} {q : Queue P} (n : ℕ) → Through ms cs q → Through ms (cs ++ (drained n q).0) (drained n q).1

module _ {R : Type 0} (viewed : R → ℕ) (sort : R → Kind) where
  -- no two verdicts on a view differ
  abbrev pub VerdictsAgree : List (Call R) → Type 0
  VerdictsAgree h = (v : ℕ) → passed viewed sort v h ≡ true → failed viewed sort v h ≡ false

  -- no finalization falls on a view that a nullification covers
  abbrev pub NoneFinalizedCovered : ℕ → List (Call R) → Type 0
  NoneFinalizedCovered L h = (v : ℕ) → some (by_evidence (λ x. is_finalization (sort x) && viewed x == v)) h ≡ true → covered viewed sort L v h ≡ false
