-- What holds where a result is Ok.
use Rattle.std.proofs.Common.{Ok, Err, Result, OnOk}

pub on_ok : {A E : Type 0} (r : Result A E) (P Q : Type 0) → (P → Q) → OnOk r P → OnOk r Q
on_ok (Ok x) P Q more p = more p
on_ok (Err e) P Q more p = p
