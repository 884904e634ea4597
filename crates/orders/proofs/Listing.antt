-- Asks that are read one after the other, behind those that were read before.
use Rattle.std.proofs.Common.{◌≡◌, ℕ, zero, suc, ◌+◌, ◌-◌, ◌<◌, ◌≤◌, List, [], ◌∷◌, ◌++◌, length, take, drop, Ok, Err, Result, refl, sym, ap, ◌∙◌, subst, arith}
use Rattle.std.proofs.lemmas.Bool.{le-leb, lt-leb}
use Rattle.std.proofs.lemmas.List.{append_assoc, length-drop, take_all}
use Rattle.board.specs.declared.ask.Ask.{Ask}
use Rattle.orders.specs.Asks.{ask_named, asks_in}
use Rattle.words.specs.Lines.{until}
use Rattle.words.specs.Problems.{bind}
use Rattle.words.specs.declared.problem.Problem.{Problem}

abbrev pub behind : List Ask → Result (List Ask) Problem → Result (List Ask) Problem
behind qs (Ok rs) = Ok (qs ++ rs)
behind qs (Err p) = Err p

-- with fuel for what is left, the rest of the word says what the whole word says
abbrev pub Left : List ℕ → List ℕ → List Ask → Type 0
Left word rest qs = (n : ℕ) × (length rest < n) × (behind qs (asks_in n rest) ≡ asks_in (length word + 1) word)

none_before : (r : Result (List Ask) Problem) → behind [] r ≡ r
none_before (Ok rs) = refl
none_before (Err p) = refl

pub at_first : (word : List ℕ) → Left word word []
at_first word = (length word + 1, omega arith, none_before (asks_in (length word + 1) word))

-- the last ask
pub last_ask : (word rest : List ℕ) (qs : List Ask) (a : Ask) → Left word rest qs → ask_named (take (until 44 rest) rest) ≡ Ok a → length rest ≤ until 44 rest → asks_in (length word + 1) word ≡ Ok (qs ++ a ∷ [])
unfolding asks_in bind
last_ask word rest qs a (zero, low, e) named long = absurd (omega (arith, low))
last_ask word rest qs a (suc n, low, e) named long =
    let v : asks_in (suc n) rest ≡ Ok (a ∷ []) = rw (named, le-leb (length rest) (until 44 rest) long) refl in
    sym e ∙ ap (behind qs) v

-- one that is none
pub no_ask : (word rest : List ℕ) (qs : List Ask) (p : Problem) → Left word rest qs → ask_named (take (until 44 rest) rest) ≡ Err p → asks_in (length word + 1) word ≡ Err p
unfolding asks_in bind
no_ask word rest qs p (zero, low, e) named = absurd (omega (arith, low))
no_ask word rest qs p (suc n, low, e) named =
    let v : asks_in (suc n) rest ≡ Err p = rw named refl in
    sym e ∙ ap (behind qs) v

regrouped : (qs : List Ask) (a : Ask) (r : Result (List Ask) Problem) → behind (qs ++ a ∷ []) r ≡ behind qs (bind r (λ rs. Ok (a ∷ rs)))
unfolding bind
regrouped qs a (Ok rs) = ap Ok (append_assoc qs (a ∷ []) rs)
regrouped qs a (Err p) = refl

-- one more
pub one_ask : (word rest : List ℕ) (qs : List Ask) (a : Ask) → Left word rest qs → ask_named (take (until 44 rest) rest) ≡ Ok a → until 44 rest < length rest → Left word (drop (until 44 rest + 1) rest) (qs ++ a ∷ [])
unfolding asks_in bind
one_ask word rest qs a (zero, low, e) named short = absurd (omega (arith, low))
one_ask word rest qs a (suc n, low, e) named short =
    let more = drop (until 44 rest + 1) rest in
    let v : asks_in (suc n) rest ≡ bind (asks_in n more) (λ rs. Ok (a ∷ rs)) = rw (named, lt-leb (length rest) (until 44 rest) short) refl in
    (n, omega (arith, length-drop (until 44 rest + 1) rest, low, short), regrouped qs a (asks_in n more) ∙ (sym (ap (behind qs) v) ∙ e))

-- the same by the places that the code goes by
pub goes_on : (word rest more : List ℕ) (qs now : List Ask) (a : Ask) (at : ℕ) → Left word rest qs → at ≡ until 44 rest → ask_named (take at rest) ≡ Ok a → (at ≡ length rest → ⊥) → at ≤ length rest → more ≡ drop (at + 1) rest → now ≡ qs ++ a ∷ [] → Left word more now
goes_on word rest more qs now a at l e named short low m n =
    let own : ask_named (take (until 44 rest) rest) ≡ Ok a = subst (λ k. ask_named (take k rest) ≡ Ok a) e named in
    let less : until 44 rest < length rest = omega (arith, e, short, low) in
    subst (λ xs. Left word xs now) (ap (λ k. drop (k + 1) rest) (sym e) ∙ sym m) (subst (λ ys. Left word (drop (until 44 rest + 1) rest) ys) (sym n) (one_ask word rest qs a l own less))

pub to_end : (n : ℕ) (xs : List ℕ) → take (length xs - n) (drop n xs) ≡ drop n xs
to_end n xs = take_all (length xs - n) (drop n xs) (omega (arith, length-drop n xs))

pub stops : (word rest : List ℕ) (qs : List Ask) (p : Problem) (at : ℕ) → Left word rest qs → at ≡ until 44 rest → ask_named (take at rest) ≡ Err p → asks_in (length word + 1) word ≡ Err p
stops word rest qs p at l e named = no_ask word rest qs p l (subst (λ k. ask_named (take k rest) ≡ Err p) e named)
