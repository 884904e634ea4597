-- What is counted of the asks that are put.
use Rattle.std.specs.Prelude.{◌+◌, ◌%◌, ◌^◌, Bool, true, false, cond, length, Ok, Err, Result, vec_items}
use Rattle.peer_rounds.specs.declared.asked.Came.{Came}
use Rattle.peer_rounds.specs.declared.asked.Came.TheVariants.{Nothing, Brought}
use Rattle.peer_rounds.specs.declared.asked.Put.{Put}
use Rattle.peer_rounds.specs.declared.tally.Tally.{Tally}
use Rattle.resolver.specs.declared.fault.Fault.{Fault}
use Rattle.resolver.specs.declared.outcome.Delivered.{Delivered}
use Rattle.resolver.specs.declared.outcome.Outcome.{Outcome}
use Rattle.resolver.specs.declared.outcome.Outcome.TheVariants.{Ignored, Invalid, Unresolved, Partial, Complete, LetGo}

abbrev pub brings : Came → Bool
brings Nothing = false
brings (Brought c d p) = true

abbrev pub is_settling : Outcome → Bool
is_settling Ignored = false
is_settling Invalid = false
is_settling Unresolved = false
is_settling Partial = true
is_settling Complete = true
is_settling LetGo = false

abbrev pub has_settled : Result Delivered Fault → Bool
has_settled (Ok d) = is_settling d.outcome
has_settled (Err f) = false

abbrev pub settles : Came → Bool
settles Nothing = false
settles (Brought c d p) = has_settled d

abbrev pub tally_of : Put → Tally
tally_of p = record { asks = length (vec_items p.asks); records = cond (brings p.came) 1 0; settling = cond (settles p.came) 1 0 }

abbrev pub no_tally : Tally
no_tally = record { asks = 0; records = 0; settling = 0 }

-- the counts wrap
abbrev pub with_all : Tally → Tally → Tally
with_all s t = record { asks = (s.asks + t.asks) % 2 ^ 64; records = (s.records + t.records) % 2 ^ 64; settling = (s.settling + t.settling) % 2 ^ 64 }
