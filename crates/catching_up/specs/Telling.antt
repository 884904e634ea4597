-- What is written before and after the rounds.
use Rattle.std.specs.Prelude.{◌≡◌, ℕ, List, [], ◌∷◌, ◌++◌, length, true, false, codes, decimal, Ok, Err, Result}
use Rattle.answers.specs.Answered.{done_of}
use Rattle.answers.specs.Texts.{numbers_text, tables_text, asks_text}
use Rattle.board.specs.Left.{shown}
use Rattle.board.specs.declared.open.Open.{Open}
use Rattle.catching_up.specs.Entries.{entered, defaults_of, TakenIn}
use Rattle.catching_up.specs.Standings.{standing_of}
use Rattle.catching_up.specs.Texts.{standing_text}
use Rattle.peer_rounds.specs.Texts.{summary_text}
use Rattle.catching_up.specs.declared.entry.Entry.{Entry}
use Rattle.catching_up.specs.declared.entry.Entry.TheVariants.{Evidence, Verdict, EndOfReplay}
use Rattle.peer_rounds.specs.declared.running.Summary.{Summary}
use Rattle.one_member.specs.Carried.{Called}
use Rattle.one_member.specs.declared.member.Member.{Member}
use Rattle.record.specs.Kinds.{name_of}
use Rattle.refusals.specs.Shown.{refusal_text}
use Rattle.resolver.specs.Faults.{refusal_of}
use Rattle.resolver.specs.declared.fault.Fault.{Fault}
use Rattle.state.specs.States.{held, term}

abbrev pub entry_text : Entry → List ℕ
entry_text (Evidence k v) = name_of k ++ (codes " " ++ decimal v)
entry_text (Verdict v true) = codes "pass " ++ decimal v
entry_text (Verdict v false) = codes "fail " ++ decimal v
entry_text EndOfReplay = codes "end of replay"

abbrev pub recorded_text : Result (Unit {0}) Fault → List ℕ
recorded_text (Ok _) = codes "recorded"
recorded_text (Err f) = refusal_text (refusal_of f)

-- a line ends with byte 10
abbrev pub learned_line : Entry → Result (Unit {0}) Fault → List ℕ
learned_line e answer = entry_text e ++ (codes ": " ++ (recorded_text answer ++ 10 ∷ []))

abbrev pub journal_line : ℕ → ℕ → List ℕ
journal_line entries refused = codes "journal: entries " ++ (decimal entries ++ (codes ", refused " ++ (decimal refused ++ 10 ∷ [])))

module _ {B : Type 0} (asks : B → List Open) where
  -- what a member holds, and what it asks for
  abbrev pub told_text : Member B → List ℕ
  told_text m = codes "state: " ++ (numbers_text (held m.resolver.calls.state) ++ (tables_text (held m.resolver.calls.state) ++ (codes "\nopen asks: " ++ (asks_text (shown (asks m.board)) ++ 10 ∷ []))))

  abbrev pub closing_text : Summary → Member B → List ℕ
  closing_text s m = (summary_text s ++ (10 ∷ (standing_text (standing_of (term m.resolver.calls.state) (held m.resolver.calls.state)) ++ 10 ∷ []))) ++ told_text m

  pub record Learned (e : Entry) (m n : Member B) (text : List ℕ) : Type 0 where
    pub answer : Result (Unit {0}) Fault
    pub called : Called asks (done_of answer) m n (entered (defaults_of m) e)
    pub is : text ≡ learned_line e answer

  -- the entries, and the end of replay
  pub record Replayed (es : List Entry) (m n : Member B) (text : List ℕ) : Type 0 where
    pub between : Member B
    pub refused : ℕ
    pub taken_in : TakenIn asks m es between refused
    pub said : List ℕ
    pub ended : Learned EndOfReplay between n said
    pub is : text ≡ journal_line (length es) refused ++ said

  pub record Rejoined (es : List Entry) (news : Entry) (m n : Member B) (text : List ℕ) : Type 0 where
    pub back : Member B
    pub first : List ℕ
    pub replayed : Replayed es m back first
    pub second : List ℕ
    pub learned : Learned news back n second
    pub is : text ≡ first ++ (told_text back ++ (second ++ told_text n))
