-- The words of a member's commands.
use Rattle.std.specs.Prelude.{ℕ, Bool, true, false, cond, List, length, Ok, Err, codes, Result, ◌==◌}
use Rattle.std.specs.Str.{bytes_eq}
use Rattle.effects.specs.declared.effect.Kind.{Kind}
use Rattle.effects.specs.declared.effect.Kind.TheVariants.{Nullification, Notarization}
use Rattle.orders.specs.declared.naming.CallName.{CallName}
use Rattle.orders.specs.declared.naming.CallName.TheVariants.{Updated, Certified, Replayed, Resolve}
use Rattle.orders.specs.declared.naming.Name.{Name}
use Rattle.orders.specs.declared.naming.Name.TheVariants.{Call, Offer, Deliver, Settled, Produce, Asks, State}
use Rattle.words.specs.declared.problem.Problem.{Problem}
use Rattle.words.specs.declared.problem.Problem.TheVariants.{UnknownCommand, MissingWord, NotAVerdict, NotAnAsk}

abbrev pub call_name_of : List ℕ → Result CallName Problem
call_name_of w = cond (length w == 0) (Err MissingWord) (cond (bytes_eq w (codes "updated")) (Ok Updated) (cond (bytes_eq w (codes "certified")) (Ok Certified) (cond (bytes_eq w (codes "replayed")) (Ok Replayed) (cond (bytes_eq w (codes "resolve")) (Ok Resolve) (Err UnknownCommand)))))

abbrev pub call_or : Result CallName Problem → Result Name Problem → Result Name Problem
call_or (Ok n) others = Ok (Call n)
call_or (Err p) others = others

abbrev pub name_of : List ℕ → Result Name Problem
name_of w = call_or (call_name_of w) (cond (bytes_eq w (codes "offer")) (Ok Offer) (cond (bytes_eq w (codes "deliver")) (Ok Deliver) (cond (bytes_eq w (codes "settled")) (Ok Settled) (cond (bytes_eq w (codes "produce")) (Ok Produce) (cond (bytes_eq w (codes "asks")) (Ok Asks) (cond (bytes_eq w (codes "state")) (Ok State) (Err UnknownCommand)))))))

abbrev pub verdict_of : List ℕ → Result Bool Problem
verdict_of w = cond (length w == 0) (Err MissingWord) (cond (bytes_eq w (codes "pass")) (Ok true) (cond (bytes_eq w (codes "fail")) (Ok false) (Err NotAVerdict)))

abbrev pub kind_of : List ℕ → Result Kind Problem
kind_of w = cond (length w == 0) (Err MissingWord) (cond (bytes_eq w (codes "nullification")) (Ok Nullification) (cond (bytes_eq w (codes "notarization")) (Ok Notarization) (Err NotAnAsk)))
