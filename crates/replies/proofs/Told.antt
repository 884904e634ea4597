-- What a line is taken for, and what was written.
use Rattle.std.proofs.Common.{◌≡◌, ℕ, ◌⊎◌, List, Option, Ok, Err, Result, IfOk, inl, inr, sym, ap}
use Rattle.replies.specs.Replies.{TakenFor, Wrote}
use Rattle.replies.specs.declared.turn.Turn.{Turn}
use Rattle.script.specs.Lines.{Sense}
use Rattle.words.specs.declared.problem.Problem.{Problem}
use Rattle.words.specs.declared.problem.Problem.TheVariants.{OutOfMemory}

pub understood : (meant taken : Result Sense Problem) → meant ≡ taken → TakenFor meant taken
understood meant taken h = inr (sym h)

pub not_understood : (meant : Result Sense Problem) (p : Problem) → (p ≡ OutOfMemory) ⊎ (meant ≡ Err p) → TakenFor meant (Err p)
not_understood meant p (inl h) = inl (ap Err h)
not_understood meant p (inr h) = inr (sym h)

-- what was written says more
pub wrote_more : {E : Type 0} (r : Result Turn E) (u v : Option (List ℕ)) (P Q : Turn → List ℕ → Type 0) → ((t : Turn) (answer : List ℕ) → P t answer → Q t answer) → IfOk r (λ t. Wrote u v (P t)) → IfOk r (λ t. Wrote u v (Q t))
wrote_more (Ok t) u v P Q more wrote = record { answer = wrote.answer; written = wrote.written; told = more t wrote.answer wrote.told }
wrote_more (Err e) u v P Q more wrote = wrote
