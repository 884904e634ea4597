-- What a member answers, by what its resolver answers.
use Rattle.std.specs.Prelude.{Bool, cond, Some, None, Option, Ok, Err, Result}
use Rattle.answers.specs.declared.answered.Answered as answered
use Rattle.answers.specs.declared.answered.Answered.TheVariants.{Done, Refused, Asked, NotNeeded, Judged as Brought, Yes, No, Nothing as NoRecord, Served}
use Rattle.record.specs.declared.certificate.Certificate.{Certificate}
use Rattle.resolver.specs.Faults.{refusal_of}
use Rattle.resolver.specs.declared.fault.Fault.{Fault}
use Rattle.resolver.specs.declared.outcome.Delivered.{Delivered}

abbrev pub done_of : Result (Unit {0}) Fault → answered.Answered
done_of (Ok _) = Done
done_of (Err f) = Refused (refusal_of f)

abbrev pub yes_no : Bool → answered.Answered
yes_no b = cond b Yes No

abbrev pub asked_of : Result Bool Fault → answered.Answered
asked_of (Ok b) = cond b Asked NotNeeded
asked_of (Err f) = Refused (refusal_of f)

abbrev pub judged_of : Result Delivered Fault → answered.Answered
judged_of (Ok d) = Brought d
judged_of (Err f) = Refused (refusal_of f)

abbrev pub found_of : Option Certificate → answered.Answered
found_of None = NoRecord
found_of (Some c) = Served c
