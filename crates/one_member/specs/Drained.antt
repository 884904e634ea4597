-- What comes of a drain: the calls that it makes, and what it writes.
use Rattle.std.specs.Prelude.{◌≡◌, ℕ, List, [], ◌∷◌, ◌++◌, length, codes, decimal, Option}
use Rattle.std.specs.Io.KnownBytes.{Appends}
use Rattle.answers.specs.declared.answered.Answered.{Answered}
use Rattle.board.specs.declared.open.Open.{Open}
use Rattle.message_text.specs.Offers.{call_of}
use Rattle.message_text.specs.Texts.{message_text}
use Rattle.one_member.specs.Carried.{QueueAlone, Called}
use Rattle.one_member.specs.Texts.{answer_text}
use Rattle.one_member.specs.declared.member.Member.{Member}
use Rattle.queue.specs.declared.message.Message.{Message}

-- a line ends with byte 10
abbrev pub first_line : ℕ → List ℕ
first_line n = codes "drained " ++ (decimal n ++ 10 ∷ [])

module _ {B : Type 0} (asks : B → List Open) where
  abbrev pub line_text : Message (List ℕ) → Answered → Member B → List ℕ
  line_text x a m = codes "  " ++ (message_text x ++ (codes ": " ++ (answer_text asks m a ++ 10 ∷ [])))

  -- one call after the other, each at the member that the one before it left, and the lines that say their answers
  unfoldable pub Steps : List (Message (List ℕ)) → Member B → Member B → List ℕ → Type 0
  Steps [] m n text = (n ≡ m) × (text ≡ [])
  Steps (x ∷ xs) m n text = (a : Answered) × (k : Member B) × (rest : List ℕ) × Called asks a m k (call_of x) × (text ≡ line_text x a k ++ rest) × Steps xs k n rest

  module _ (xs : List (Message (List ℕ))) (m n : Member B) (before after : Option (List ℕ)) where
    -- these calls are made, and their lines written
    pub record Made : Type 0 where
      pub text : List ℕ
      pub written : Appends before after text
      pub steps : Steps xs m n text

    -- these messages came out of the queue and nothing else changed, then the calls were made
    pub record Drained : Type 0 where
      pub emptied : Member B
      pub others : QueueAlone m emptied
      pub text : List ℕ
      pub written : Appends before after (first_line (length xs) ++ text)
      pub steps : Steps xs emptied n text
