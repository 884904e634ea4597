-- The orders of a script, by the bytes of their records.
use Rattle.std.specs.Prelude.{ℕ, Bool, cond, List, length, Some, None, Ok, Option, vec_items, Result, ◌==◌}
use Rattle.board.specs.declared.ask.Ask.{Ask}
use Rattle.effects.specs.declared.effect.Kind.{Kind}
use Rattle.orders.specs.Asks.{asks_of}
use Rattle.orders.specs.Names.{call_name_of, name_of, verdict_of, kind_of}
use Rattle.orders.specs.declared.naming.CallName.{CallName}
use Rattle.orders.specs.declared.naming.CallName.TheVariants as call-name
use Rattle.orders.specs.declared.naming.Name.{Name}
use Rattle.orders.specs.declared.naming.Name.TheVariants as name
use Rattle.orders.specs.declared.order.Call.{Call as Spoken}
use Rattle.orders.specs.declared.order.Call.TheVariants.{Updated, Certified, Replayed, Resolve}
use Rattle.orders.specs.declared.order.Order.{Order}
use Rattle.orders.specs.declared.order.Order.TheVariants.{Call, Offer, Deliver, Settled, Produce, Asks, State}
use Rattle.record_text.specs.Parts.{record_of}
use Rattle.record_text.specs.declared.parts.Defaults.{Defaults}
use Rattle.words.specs.Lines.{word_at, after_words, ended}
use Rattle.words.specs.Numerals.{number_of, short_of}
use Rattle.words.specs.Problems.{bind}
use Rattle.words.specs.declared.problem.Problem.{Problem}

-- what a resolver is called with
pub data Calling : Type 0 where
  update : (bytes : List ℕ) → Calling
  judge : (pass : Bool) (bytes : List ℕ) → Calling
  end : Calling
  wish : (proposal view : ℕ) (kind : Kind) (target : Option ℕ) → Calling

abbrev pub calling : Spoken → Calling
calling (Updated bytes) = update (vec_items bytes)
calling (Certified b bytes) = judge b (vec_items bytes)
calling Replayed = end
calling (Resolve p v k t) = wish p v k t

pub data Meant : Type 0 where
  call : (what : Calling) → Meant
  offer : (what : Calling) → Meant
  bring : (view : ℕ) (asks : List Ask) (bytes : List ℕ) → Meant
  ask : (view : ℕ) (kind : Kind) → Meant
  serve : (view : ℕ) → Meant
  list : Meant
  tell : Meant

abbrev pub meant : Order → Meant
meant (Call c) = call (calling c)
meant (Offer c) = offer (calling c)
meant (Deliver v qs bytes) = bring v (vec_items qs) (vec_items bytes)
meant (Settled v k) = ask v k
meant (Produce v) = serve v
meant Asks = list
meant State = tell

-- `RECORD`
unfoldable pub updated_of : Defaults → List ℕ → Result Calling Problem
updated_of d bs = bind (record_of d bs) (λ b. Ok (update b))

-- `pass|fail RECORD`
unfoldable pub certified_of : Defaults → List ℕ → Result Calling Problem
certified_of d bs = bind (verdict_of (word_at 0 bs)) (λ p. bind (record_of d (after_words 1 bs)) (λ b. Ok (judge p b)))

-- `VIEW ASKKIND`
unfoldable pub settled_of : List ℕ → Result Meant Problem
settled_of bs = bind (number_of (word_at 0 bs)) (λ v. bind (kind_of (word_at 1 bs)) (λ k. bind (ended (after_words 2 bs)) (λ _. Ok (ask v k))))

-- `VIEW`
unfoldable pub produce_of : List ℕ → Result Meant Problem
produce_of bs = bind (number_of (word_at 0 bs)) (λ v. bind (ended (after_words 1 bs)) (λ _. Ok (serve v)))

-- `[SEAT]`
unfoldable pub seat_of : List ℕ → Result (Option ℕ) Problem
seat_of bs = cond (length (word_at 0 bs) == 0) (Ok None) (bind (short_of (word_at 0 bs)) (λ s. bind (ended (after_words 1 bs)) (λ _. Ok (Some s))))

-- `PROPOSAL VIEW ASKKIND [SEAT]`
unfoldable pub resolve_of : List ℕ → Result Calling Problem
resolve_of bs = bind (number_of (word_at 0 bs)) (λ p. bind (number_of (word_at 1 bs)) (λ v. bind (kind_of (word_at 2 bs)) (λ k. bind (seat_of (after_words 3 bs)) (λ t. Ok (wish p v k t)))))

-- `VIEW ASKS RECORD`
unfoldable pub deliver_of : Defaults → List ℕ → Result Meant Problem
deliver_of d bs = bind (number_of (word_at 0 bs)) (λ v. bind (asks_of (word_at 1 bs)) (λ qs. bind (record_of d (after_words 2 bs)) (λ b. Ok (bring v qs b))))

-- nothing more
unfoldable pub plain_of : {A : Type 0} → A → List ℕ → Result A Problem
plain_of m bs = bind (ended bs) (λ _. Ok m)

-- a call, by its name
abbrev pub named_call : Defaults → CallName → List ℕ → Result Calling Problem
named_call d call-name.Updated bs = updated_of d bs
named_call d call-name.Certified bs = certified_of d bs
named_call d call-name.Replayed bs = plain_of end bs
named_call d call-name.Resolve bs = resolve_of bs

-- what is offered: the words of a call
unfoldable pub offer_of : Defaults → List ℕ → Result Calling Problem
offer_of d bs = bind (call_name_of (word_at 0 bs)) (λ n. named_call d n (after_words 1 bs))

abbrev pub named_of : Defaults → Name → List ℕ → Result Meant Problem
named_of d (name.Call n) bs = bind (named_call d n bs) (λ c. Ok (call c))
named_of d name.Offer bs = bind (offer_of d bs) (λ c. Ok (offer c))
named_of d name.Deliver bs = deliver_of d bs
named_of d name.Settled bs = settled_of bs
named_of d name.Produce bs = produce_of bs
named_of d name.Asks bs = plain_of list bs
named_of d name.State bs = plain_of tell bs

unfoldable pub order_of : Defaults → List ℕ → Result Meant Problem
order_of d bs = bind (name_of (word_at 0 bs)) (λ n. named_of d n (after_words 1 bs))
