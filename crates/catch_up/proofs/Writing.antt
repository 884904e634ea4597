-- What holds where a result is Ok.
use Rattle.std.proofs.Common.{Ok, Err, Result, IfOk}

pub if_ok : {A E : Type 0} (r : Result A E) (P Q : Type 0) → (P → Q) → IfOk r (λ _. P) → IfOk r (λ _. Q)
if_ok (Ok x) P Q more p = more p
if_ok (Err e) P Q more p = p
