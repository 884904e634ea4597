-- Questions and requests.
use Rattle.std.specs.Prelude.{◌≡◌, ℕ, Bool, true, false, cond, Some, None, Option, Result, ◌==◌}
use Rattle.board.specs.Boards.{requested}
use Rattle.board.specs.Left.{shown}
use Rattle.effects.specs.declared.effect.Kind.{Kind}
use Rattle.effects.specs.declared.effect.Kind.TheVariants.{Nullification, Notarization}
use Rattle.driven.specs.Members.{values_of, asks_of, kept_as}
use Rattle.driven.specs.declared.member.Member.{Member}
use Rattle.resolver.specs.Calls.{request_answer}
use Rattle.resolver.specs.declared.fault.Fault.{Fault}
use Rattle.state.specs.Settled.{settled}
use Rattle.embedded.specs.Answers.{done, unknown}
use Rattle.embedded.specs.declared.answer.Answer.{Answer}

-- the kind of a number
abbrev pub kind_of : ℕ → Option Kind
kind_of n = cond (n == 1) (Some Nullification) (cond (n == 2) (Some Notarization) None)

abbrev pub settled_told : Member → ℕ → Option Kind → Answer
settled_told m v None = unknown
settled_told m v (Some k) = done (cond (settled m.head.term_length k v (values_of m)) 1 0) false

abbrev pub target_of : ℕ → ℕ → Option ℕ
target_of n t = cond (n == 0) None (Some t)

abbrev pub request_told : Member → ℕ → ℕ → Kind → Result Bool Fault
request_told m p v k = request_answer m.head.term_length p v k (asks_of m) (values_of m)

-- what a request leaves: if it asks, the open asks have it
abbrev pub Requested : Bool → ℕ → Kind → Option ℕ → Member → Member → Type 0
Requested true v k t m m' = m' ≡ kept_as (values_of m) (shown (requested v k t (asks_of m))) m
Requested false v k t m m' = m' ≡ m
