-- What the commands answer, and in which words.
use Rattle.std.specs.Prelude.{ℕ, ◌^◌, cond, List, ◌++◌, Ok, Err, codes, decimal, Result, ◌==◌, nat_le}
use Rattle.record.specs.Certificates.{header_of, proposal_in}
use Rattle.record.specs.Faults as record-faults
use Rattle.record.specs.Format.{reading}
use Rattle.record.specs.Kinds.{name_of}
use Rattle.record.specs.declared.certificate.Certificate.{Certificate}
use Rattle.record.specs.declared.fault.Fault as record-fault
use Rattle.refusals.specs.Shown.{refusal_text}
use Rattle.script.specs.declared.answer.Answer.{Answer}
use Rattle.script.specs.declared.answer.Answer.TheVariants.{Term, Yes, No, Says, Refused}
use Rattle.terms.specs.Faults.{refusal_of}
use Rattle.terms.specs.Terms.{start, end, next, covering}
use Rattle.terms.specs.declared.fault.Fault.TheVariants.{ZeroLength, ViewTooHigh}

abbrev pub text_of : Answer → List ℕ
text_of (Term s e n) = codes "start " ++ (decimal s ++ (codes " end " ++ (decimal e ++ (codes " next " ++ decimal n))))
text_of Yes = codes "yes"
text_of No = codes "no"
text_of (Says h p) = name_of h.kind ++ (codes " epoch " ++ (decimal h.epoch ++ (codes " view " ++ (decimal h.view ++ (codes " parent " ++ decimal p)))))
text_of (Refused r) = refusal_text r

abbrev pub term_answer : ℕ → ℕ → Answer
term_answer L v = cond (L == 0) (Refused (refusal_of ZeroLength)) (cond (nat_le v (2 ^ 62)) (Term (start L v) (end L v) (next L v)) (Refused (refusal_of ViewTooHigh)))

abbrev pub covers_answer : ℕ → ℕ → ℕ → Answer
covers_answer L u v = cond (L == 0) (Refused (refusal_of ZeroLength)) (cond (covering L u v) Yes No)

abbrev pub said : Result Certificate record-fault.Fault → Answer
said (Ok c) = Says (header_of c) (proposal_in c).parent
said (Err f) = Refused (record-faults.refusal_of f)

abbrev pub read_answer : List ℕ → Answer
read_answer bs = said (reading bs)
