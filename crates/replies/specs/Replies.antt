-- What a line is answered, and what it leaves of a member.
use Rattle.std.specs.Prelude.{◌≡◌, ℕ, ◌<◌, min, false, ◌⊎◌, List, [], ◌∷◌, ◌++◌, length, codes, Ok, Err, Result, Option}
use Rattle.std.specs.Io.KnownBytes.{Appends}
use Rattle.answers.specs.declared.answered.Answered.{Answered as Answer}
use Rattle.board.specs.declared.open.Open.{Open}
use Rattle.one_member.specs.Carried.{Carried, QueueAlone}
use Rattle.one_member.specs.Drained.{first_line, Steps}
use Rattle.one_member.specs.Making.{Made}
use Rattle.one_member.specs.Texts.{answer_text}
use Rattle.one_member.specs.declared.member.Member as member
use Rattle.orders.specs.declared.setup.Setup.{Setup}
use Rattle.queue.specs.Pendings.{queue_of}
use Rattle.queue.specs.Queues.{drained}
use Rattle.record_text.specs.declared.parts.Defaults.{Defaults}
use Rattle.refusals.specs.Shown.{refusal_text}
use Rattle.refusals.specs.declared.Refusal.{Refusal}
use Rattle.replies.specs.declared.turn.Turn.{Turn}
use Rattle.replies.specs.declared.turn.Turn.TheVariants.{Answered, NoCommand, Member}
use Rattle.script.specs.Answers.{text_of}
use Rattle.script.specs.Lines.{Sense, nothing, answered, making, ordered, draining, asked_run}
use Rattle.script.specs.Mistakes.{mistake_text}
use Rattle.state.specs.States.{epoch_of}
use Rattle.terms.specs.Faults.{refusal_of}
use Rattle.terms.specs.declared.fault.Fault.TheVariants.{ZeroLength}
use Rattle.verifier.specs.Faults.{refusal_of as refused_by}
use Rattle.verifier.specs.Seats.{allowed}
use Rattle.verifier.specs.declared.fault.Fault.TheVariants.{NoQuorum}
use Rattle.words.specs.declared.problem.Problem.{Problem}
use Rattle.words.specs.declared.problem.Problem.TheVariants.{NoMember, OutOfMemory}

-- a line ends with byte 10
abbrev pub line_of : List ℕ → List ℕ
line_of bs = bs ++ 10 ∷ []

-- what a line is taken for: what it means, unless there was no memory
abbrev pub TakenFor : Result Sense Problem → Result Sense Problem → Type 0
TakenFor meant taken = (taken ≡ Err OutOfMemory) ⊎ (taken ≡ meant)

-- the line of this number is no command
abbrev pub Mistaken : ℕ → Problem → Turn → List ℕ → Type 0
Mistaken n p t answer = (t ≡ NoCommand) × (answer ≡ line_of (mistake_text (record { line = n; problem = p })))

-- why no member is made: the term length is looked at first
abbrev pub Refused : Setup → Refusal → Type 0
Refused s f = ((s.term_length ≡ 0) × (f ≡ refusal_of ZeroLength)) ⊎ ((0 < s.term_length) × (allowed s.seats s.quorum ≡ false) × (f ≡ refused_by NoQuorum))

-- a member is made, or it is refused
abbrev pub Making : Setup → Turn → List ℕ → Type 0
Making s (Member a) answer = Made s a × (answer ≡ line_of (codes "member"))
Making s Answered answer = (f : Refusal) × Refused s f × (answer ≡ line_of (refusal_text f))
Making s NoCommand answer = ⊥

-- what a line comes to where there is no member, by what it is taken for
abbrev pub Alone : Result Sense Problem → ℕ → Turn → List ℕ → Type 0
Alone (Ok nothing) n t answer = (t ≡ Answered) × (answer ≡ [])
Alone (Ok (answered a)) n t answer = (t ≡ Answered) × (answer ≡ line_of (text_of a))
Alone (Ok (making s)) n t answer = Making s t answer
Alone (Ok (ordered o)) n t answer = Mistaken n NoMember t answer
Alone (Ok (draining k)) n t answer = Mistaken n NoMember t answer
Alone (Err p) n t answer = Mistaken n p t answer

-- where there is no member, a record has epoch and seats 0
abbrev pub no_defaults : Defaults
no_defaults = record { epoch = 0; seats = 0 }

-- the line of this number and text, with no member
pub record AnsweredAlone (line : ℕ) (text : List ℕ) (turn : Turn) (answer : List ℕ) : Type 0 where
  pub taken : Result Sense Problem
  pub is : TakenFor (asked_run no_defaults text) taken
  pub told : Alone taken line turn answer

module _ {B : Type 0} (asks : B → List Open) where
  -- what a line comes to, by what it is taken for
  abbrev pub WithMember : Result Sense Problem → ℕ → Turn → member.Member B → member.Member B → List ℕ → Type 0
  WithMember (Ok (ordered o)) n t m k answer = (t ≡ Answered) × (a : Answer) × Carried asks a m k o × (answer ≡ line_of (answer_text asks k a))
  WithMember (Ok (draining c)) n t m k answer =
      (t ≡ Answered)
      × (queue_of k.queue ≡ (drained (min c 65) (queue_of m.queue)).1)
      × (emptied : member.Member B) × QueueAlone m emptied
      × (text : List ℕ) × (answer ≡ first_line (length (drained (min c 65) (queue_of m.queue)).0) ++ text)
      × Steps asks (drained (min c 65) (queue_of m.queue)).0 emptied k text
  WithMember (Ok nothing) n t m k answer = Alone (Ok nothing) n t answer × (k ≡ m)
  WithMember (Ok (answered a)) n t m k answer = Alone (Ok (answered a)) n t answer × (k ≡ m)
  WithMember (Ok (making s)) n t m k answer = Alone (Ok (making s)) n t answer × (k ≡ m)
  WithMember (Err p) n t m k answer = Alone (Err p) n t answer × (k ≡ m)

  abbrev pub defaults_of : member.Member B → Defaults
  defaults_of m = record { epoch = epoch_of m.resolver.calls.state; seats = m.seats }

  -- the line of this number and text, with a member
  pub record AnsweredBy (line : ℕ) (text : List ℕ) (turn : Turn) (m k : member.Member B) (answer : List ℕ) : Type 0 where
    pub taken : Result Sense Problem
    pub is : TakenFor (asked_run (defaults_of m) text) taken
    pub told : WithMember taken line turn m k answer

-- this was written
pub record Wrote (before after : Option (List ℕ)) (Is : List ℕ → Type 0) : Type 0 where
  pub answer : List ℕ
  pub written : Appends before after answer
  pub told : Is answer
