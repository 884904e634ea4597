-- What comes of the asks of a view that are put to a peer.
use Rattle.std.specs.Prelude.{◌≡◌, ℕ, Bool, true, false, ◌&&◌, ◌==◌, List, map, filter, Some, None, Option, Ok, Err, Result, vec_items}
use Rattle.answers.specs.Answered.{done_of, judged_of}
use Rattle.board.specs.Left.{shown}
use Rattle.board.specs.declared.ask.Ask.{Ask}
use Rattle.board.specs.declared.open.Open.{Open}
use Rattle.peer_rounds.specs.declared.asked.Came.{Came}
use Rattle.peer_rounds.specs.declared.asked.Came.TheVariants.{Nothing, Brought}
use Rattle.peer_rounds.specs.declared.asked.Put.{Put}
use Rattle.one_member.specs.Carried.{Called, Carried}
use Rattle.one_member.specs.declared.member.Member.{Member}
use Rattle.orders.specs.Orders.{bring, judge}
use Rattle.record.specs.Certificates.{kind_in, written}
use Rattle.record.specs.declared.certificate.Certificate.{Certificate}
use Rattle.resolver.specs.declared.fault.Fault.{Fault}
use Rattle.resolver.specs.declared.outcome.Delivered.{Delivered}
use Rattle.state.specs.Answers.{is_notarization}
use Rattle.state.specs.Serving.{served}
use Rattle.state.specs.States.{held, term}

abbrev pub at_view : ℕ → List Open → List Open
at_view v os = filter (λ o. o.view == v) (shown os)

abbrev pub ask_in : Open → Ask
ask_in o = o.ask

-- a notarization that was taken
abbrev pub is_new : Certificate → Result Delivered Fault → Bool
is_new c (Ok d) = d.taken && is_notarization (kind_in c)
is_new c (Err f) = false

module _ {B : Type 0} (asks : B → List Open) where
  -- the member's own verdict, a pass
  abbrev pub PassedIf : Bool → Certificate → Option (Result (Unit {0}) Fault) → Member B → Member B → Type 0
  PassedIf false c p m n = (p ≡ None) × (n ≡ m)
  PassedIf true c p m n = (answer : Result (Unit {0}) Fault) × (p ≡ Some answer) × Called asks (done_of answer) m n (judge true (written c))

  -- a record that was delivered, and after it the verdict on one that is new
  pub record Brings (v : ℕ) (qs : List Ask) (c : Certificate) (d : Result Delivered Fault) (p : Option (Result (Unit {0}) Fault)) (m n : Member B) : Type 0 where
    pub between : Member B
    pub delivered : Carried asks (judged_of d) m between (bring v qs (written c))
    pub passed : PassedIf (is_new c d) c p between n

  module _ {C : Type 0} (peer : Member C) (v : ℕ) where
    abbrev pub serving : Option Certificate
    serving = served (term peer.resolver.calls.state) v (held peer.resolver.calls.state)

    -- what the peer serves, if it serves something, is delivered for these asks
    abbrev pub CameOf : List Ask → Came → Member B → Member B → Type 0
    CameOf qs Nothing m n = (serving ≡ None) × (n ≡ m)
    CameOf qs (Brought c d p) m n = (serving ≡ Some c) × Brings v qs c d p m n

    -- all that are open at the view are put
    pub record PutTo (p : Put) (m n : Member B) : Type 0 where
      pub all : vec_items p.asks ≡ at_view v (asks m.board)
      pub came : CameOf (map ask_in (vec_items p.asks)) p.came m n
