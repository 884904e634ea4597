-- What holds of an answer.
use Rattle.std.proofs.Common.{Ok, Err, Result, IfOk}

-- what holds of an answer says more
pub says_more : {A E : Type 0} (r : Result A E) (P Q : A → Type 0) → ((x : A) → P x → Q x) → IfOk r P → IfOk r Q
says_more (Ok x) P Q more h = more x h
says_more (Err e) P Q more h = h
