-- Lines that are given, answered and taken, one after the other.
use Rattle.std.specs.Prelude.{◌≡◌, ℕ, Bool, List, Option, Some, None}
use Rattle.std.specs.Borrow.{Bor}
use Rattle.one_member.specs.declared.admitted.Admitted.{Admitted}
use Rattle.replies.specs.Turns.{commands, made_by}
use Rattle.replies.specs.declared.turn.Turn.{Turn}
use Rattle.replies.specs.declared.turn.Turn.TheVariants.{Member}

-- `answers` is what the line of a number and a text is answered, and what that makes of the one who answers
module _ {S M : Type 0} (taken : S → ℕ → List ℕ → Bool → S → Type 0) (answers : ℕ → List ℕ → Turn → M → M → List ℕ → Type 0) where
  -- the line of this number and text is answered, and the answer is taken
  pub record Took (s : S) (line : ℕ) (text : List ℕ) (m : M) (turn : Turn) (u : S) (n : M) : Type 0 where
    pub answer : List ℕ
    pub answered : answers line text turn m n answer
    pub took : taken s line answer (commands turn) u

module _ {S M : Type 0} (given : S → Option (ℕ × Bor (List ℕ)) → S → Type 0) (taken : S → ℕ → List ℕ → Bool → S → Type 0) (answers : ℕ → List ℕ → Turn → M → M → List ℕ → Type 0) where
  pub record Round (s : S) (m : M) (turn : Turn) (u : S) (n : M) : Type 0 where
    pub line : ℕ
    pub text : Bor (List ℕ)
    pub between : S
    pub answer : List ℕ
    pub gave : given s (Some (line, text)) between
    pub answered : answers line text.now turn m n answer
    pub took : taken between line answer (commands turn) u

  -- lines that make no member
  pub data Rounds : S → M → S → M → Type 0 where
    none : {s : S} {m : M} → Rounds s m s m
    more : {s t u : S} {m k n : M} (turn : Turn) → Rounds s m t k → made_by turn ≡ None → Round t k turn u n → Rounds s m u n

  -- then comes one that makes a member, or no line is left
  abbrev pub Last : Option Admitted → S → M → S → M → Type 0
  Last (Some a) t k u n = Round t k (Member a) u n
  Last None t k u n = given t None u × (n ≡ k)

  pub record Talk (s : S) (m : M) (next : Option Admitted) (u : S) (n : M) : Type 0 where
    pub before : S
    pub answerer : M
    pub rounds : Rounds s m before answerer
    pub last : Last next before answerer u n
