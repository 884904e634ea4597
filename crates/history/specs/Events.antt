-- The calls of one resolver with what they answered, newest first: refused ones too.
use Rattle.std.specs.Prelude.{◌≡◌, ℕ, Bool, cond, List, [], ◌∷◌, ◌++◌, Ok, Err, Result, Option}
use Rattle.board.specs.declared.ask.Ask.{Ask as Asked}
use Rattle.effects.specs.declared.effect.Kind.{Kind as Ask}
use Rattle.record.specs.declared.fault.Fault.{Fault as Misread}
use Rattle.record.specs.declared.kind.Kind.{Kind}
use Rattle.resolver.specs.Calls.{answer_of}
use Rattle.resolver.specs.Deliveries.{delivery_test, tested, is_valid}
use Rattle.resolver.specs.declared.fault.Fault.{Fault}
use Rattle.resolver.specs.declared.outcome.Delivered.{Delivered}
use Rattle.state.specs.Answers.{refused_if, too_few, if_read}
use Rattle.state.specs.declared.fault.Fault.TheVariants.{TooFewPlaces}
use Rattle.history.specs.Calls.{Call, evidence, verdict, marker, request, settles, serves}
use Rattle.history.specs.Rules.{evidence_rule, verdict_rule, marker_rule, request_rule, delivery_rule}

-- `read` is what the bytes of a call are: a record, or why they are none; `places` is how many the host's list has
pub data Event (R : Type 0) : Type 0 where
  updated : (read : Result R Misread) (places : ℕ) (answer : Result (Unit {0}) Fault) → Event R
  certified : (pass : Bool) (read : Result R Misread) (places : ℕ) (answer : Result (Unit {0}) Fault) → Event R
  replayed : (places : ℕ) (answer : Result (Unit {0}) Fault) → Event R
  resolved : (proposal view : ℕ) (kind : Ask) (target : Option ℕ) (answer : Result Bool Fault) → Event R
  delivered : (view : ℕ) (read : Result R Misread) (asks : List Asked) (places : ℕ) (answer : Result Delivered Fault) → Event R
  settled : (view : ℕ) (kind : Ask) (answer : Bool) → Event R
  produced : (view : ℕ) (answer : Option R) → Event R

module _ {R : Type 0} where
  abbrev pub if_record : Result R Misread → (R → Call R) → List (Call R)
  if_record (Ok x) call = call x ∷ []
  if_record (Err f) call = []

  abbrev pub if_granted : {X : Type 0} → Result X Fault → List (Call R) → List (Call R)
  if_granted (Ok u) calls = calls
  if_granted (Err f) calls = []

  abbrev pub if_true : Result Bool Fault → List (Call R) → List (Call R)
  if_true (Ok b) calls = cond b calls []
  if_true (Err f) calls = []

  abbrev pub if_took : Result Delivered Fault → List (Call R) → List (Call R)
  if_took (Ok d) calls = cond d.taken calls []
  if_took (Err f) calls = []

  -- the call, if it was accepted: evidence, a verdict or a marker that was not refused, a request that was answered
  -- yes, a record that a delivery took
  abbrev pub accepted : Event R → List (Call R)
  accepted (updated read n a) = if_granted a (if_record read evidence)
  accepted (certified b read n a) = if_granted a (if_record read (verdict b))
  accepted (replayed n a) = if_granted a (marker ∷ [])
  accepted (resolved p v k t a) = if_true a (request v k t ∷ [])
  accepted (delivered v read qs n a) = if_took a (if_record read evidence)
  accepted (settled v k a) = []
  accepted (produced v a) = []

  unfoldable pub calls : List (Event R) → List (Call R)
  calls [] = []
  calls (e ∷ h) = accepted e ++ calls h

-- what stays the same in one use: the term length, the epoch, whether the host lent enough places, and the records
-- that the verifier accepts
pub record Use (R : Type 0) : Type 0 where
  pub length : ℕ
  pub epoch : ℕ
  pub fit : Bool
  pub approved : R → Bool

abbrev pub use_with : {R : Type 0} → ℕ → ℕ → Bool → (R → Bool) → Use R
use_with l e b f = record { length = l; epoch = e; fit = b; approved = f }

module _ {R : Type 0} (viewed : R → ℕ) (sort : R → Kind) (era : R → ℕ) (u : Use R) where
  -- a call answers what the rules say, by the calls accepted before it
  abbrev pub Answers : Event R → List (Call R) → Type 0
  Answers (updated read n a) h = a ≡ answer_of (refused_if (too_few u.fit n) TooFewPlaces (if_read read (λ x. evidence_rule viewed sort u.length x h)))
  Answers (certified b read n a) h = a ≡ answer_of (refused_if (too_few u.fit n) TooFewPlaces (if_read read (λ x. verdict_rule viewed sort u.length b x h)))
  Answers (replayed n a) h = a ≡ answer_of (refused_if (too_few u.fit n) TooFewPlaces (marker_rule viewed sort u.length h))
  Answers (resolved p v k t a) h = a ≡ request_rule viewed sort u.length p v k h
  Answers (delivered v read qs n a) h = a ≡ tested (delivery_test u.fit n qs) (delivery_rule viewed sort u.length (is_valid u.length sort viewed era u.approved u.epoch v) qs v read h)
  Answers (settled v k a) h = a ≡ settles viewed sort u.length k v h
  Answers (produced v a) h = a ≡ serves viewed sort u.length v h

  unfoldable pub AllAnswer : List (Event R) → Type 0
  AllAnswer [] = Unit {0}
  AllAnswer (e ∷ h) = Answers e (calls h) × AllAnswer h
