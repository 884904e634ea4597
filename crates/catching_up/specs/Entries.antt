-- What a member records, one entry after the other.
use Rattle.std.specs.Prelude.{ℕ, ◌+◌, List, [], ◌∷◌, ◌++◌, None, Ok, Err, Result}
use Rattle.answers.specs.Answered.{done_of}
use Rattle.board.specs.declared.open.Open.{Open}
use Rattle.catching_up.specs.declared.entry.Entry.{Entry}
use Rattle.catching_up.specs.declared.entry.Entry.TheVariants.{Evidence, Verdict, EndOfReplay}
use Rattle.one_member.specs.Carried.{Called}
use Rattle.one_member.specs.declared.member.Member.{Member}
use Rattle.orders.specs.Orders.{Calling, update, judge, end}
use Rattle.record.specs.Certificates.{framed}
use Rattle.record.specs.declared.kind.Kind.{Kind}
use Rattle.record.specs.declared.kind.Kind.TheVariants as kind
use Rattle.record_text.specs.Parts.{proposal_by, proof_by}
use Rattle.record_text.specs.declared.options.Options.{Options}
use Rattle.record_text.specs.declared.parts.Defaults.{Defaults}
use Rattle.resolver.specs.declared.fault.Fault.{Fault}
use Rattle.state.specs.States.{epoch_of}

-- nothing is said but what a member writes anyway
abbrev pub no_options : Options
no_options = record { epoch = None; parent = None; seats = None }

-- the bytes of the record of a kind and a view
abbrev pub bytes_of : Defaults → Kind → ℕ → List ℕ
bytes_of d k v = framed k (proposal_by v no_options d) (proof_by no_options d)

-- the call that an entry makes
abbrev pub entered : Defaults → Entry → Calling
entered d (Evidence k v) = update (bytes_of d k v)
entered d (Verdict v passes) = judge passes (bytes_of d kind.Notarization v)
entered d EndOfReplay = end

abbrev pub one_if_refused : Result (Unit {0}) Fault → ℕ
one_if_refused (Ok _) = 0
one_if_refused (Err f) = 1

-- what a record has that says nothing else
abbrev pub defaults_of : {B : Type 0} → Member B → Defaults
defaults_of m = record { epoch = epoch_of m.resolver.calls.state; seats = m.seats }

module _ {B : Type 0} (asks : B → List Open) (m : Member B) where
  -- entry by entry, each at the member that those before it left, with how many were refused
  pub data TakenIn : List Entry → Member B → ℕ → Type 0 where
    none : TakenIn [] m 0
    more : {es : List Entry} {n k : Member B} {count : ℕ} (e : Entry) (answer : Result (Unit {0}) Fault) → TakenIn es n count → Called asks (done_of answer) n k (entered (defaults_of n) e) → TakenIn (es ++ e ∷ []) k (count + one_if_refused answer)
