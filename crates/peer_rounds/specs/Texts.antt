-- The words of what came of each ask.
use Rattle.std.specs.Prelude.{List, ℕ, [], ◌∷◌, ◌++◌, codes, decimal, Some, None, Option, Ok, Err, Result, vec_items}
use Rattle.answers.specs.Texts.{asks_text, taken_text, view_in}
use Rattle.peer_rounds.specs.declared.asked.Came.{Came}
use Rattle.peer_rounds.specs.declared.asked.Came.TheVariants.{Nothing, Brought}
use Rattle.peer_rounds.specs.declared.asked.Put.{Put}
use Rattle.peer_rounds.specs.declared.running.End.{End}
use Rattle.peer_rounds.specs.declared.running.End.TheVariants.{NothingOpen, NothingSettled, TooMany}
use Rattle.peer_rounds.specs.declared.running.Summary.{Summary}
use Rattle.record.specs.Certificates.{kind_in}
use Rattle.record.specs.Kinds.{name_of}
use Rattle.refusals.specs.Shown.{refusal_text}
use Rattle.resolver.specs.Faults.{refusal_of}
use Rattle.resolver.specs.Shown.{outcome_name}
use Rattle.resolver.specs.declared.fault.Fault.{Fault}
use Rattle.resolver.specs.declared.outcome.Delivered.{Delivered}

abbrev pub delivery_text : Result Delivered Fault → List ℕ
delivery_text (Ok d) = outcome_name d.outcome ++ taken_text d.taken
delivery_text (Err f) = refusal_text (refusal_of f)

abbrev pub verdict_text : Option (Result (Unit {0}) Fault) → List ℕ
verdict_text None = []
verdict_text (Some (Ok _)) = codes ", and passes"
verdict_text (Some (Err f)) = codes ", and its pass is " ++ refusal_text (refusal_of f)

abbrev pub came_text : Came → List ℕ
came_text Nothing = codes "the peer has nothing"
came_text (Brought c d p) = name_of (kind_in c) ++ (codes " " ++ (decimal (view_in c) ++ (codes " comes back: " ++ (delivery_text d ++ verdict_text p))))

abbrev pub put_text : Put → List ℕ
put_text p = asks_text (vec_items p.asks) ++ (codes ": " ++ came_text p.came)

-- a line ends with byte 10
abbrev pub put_line : Put → List ℕ
put_line p = codes "  " ++ (put_text p ++ 10 ∷ [])

abbrev pub round_line : ℕ → List ℕ
round_line n = codes "round " ++ (decimal n ++ 10 ∷ [])

abbrev pub end_text : End → List ℕ
end_text NothingOpen = codes "nothing is left to ask for"
end_text NothingSettled = codes "the peer has nothing that settles what is still open"
end_text TooMany = codes "there were as many rounds as there may be"

abbrev pub summary_text : Summary → List ℕ
summary_text s = codes "rounds " ++ (decimal s.rounds ++ (codes ", asks put " ++ (decimal s.tally.asks ++ (codes ", records delivered " ++ (decimal s.tally.records ++ (codes ", of which " ++ (decimal s.tally.settling ++ (codes " settled an ask: " ++ end_text s.end))))))))
