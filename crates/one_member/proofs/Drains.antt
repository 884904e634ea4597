-- Calls one after the other, and the lines that they write.
use Rattle.std.proofs.Common.{◌≡◌, ℕ, List, [], ◌∷◌, ◌++◌, Option, Ok, Err, Result, OnOk, length, take, refl, sym, ap, ◌∙◌, subst, append_assoc, append-nil}
use Rattle.std.proofs.Math.Seq.{take-append_seam}
use Rattle.std.specs.Io.KnownBytes.{Appends}
use Rattle.std.proofs.KnownBytes.{Appends-nil, Appends-trans}
use Rattle.answers.specs.declared.answered.Answered.{Answered}
use Rattle.board.specs.declared.open.Open.{Open}
use Rattle.message_text.specs.Offers.{call_of}
use Rattle.one_member.specs.Carried.{QueueAlone, Called}
use Rattle.one_member.specs.Drained.{first_line, line_text, Steps, Made, Drained}
use Rattle.one_member.specs.declared.member.Member.{Member}
use Rattle.orders.specs.Orders.{Calling, update, judge, end, wish}
use Rattle.queue.specs.declared.message.Message.{Message}

-- what was written to the front of a list's part
pub front : {X : Type 0} (xs behind others list : List X) (n : ℕ) → n ≡ length xs → list ≡ xs ++ behind → take n (list ++ others) ≡ xs
front xs behind others list n count e = ap (λ k. take k (list ++ others)) count ∙ ap (λ l. take (length xs) (l ++ others)) e ∙ ap (λ l. take (length xs) l) (append_assoc xs behind others) ∙ take-append_seam xs (behind ++ others)

module _ {B : Type 0} (asks : B → List Open) where
  pub none_made : (m : Member B) (w : Option (List ℕ)) → Made asks [] m m w w
  unfolding Steps
  none_made m w = record { text = []; written = Appends-nil w; steps = (refl, refl) }

  one_more : (xs : List (Message (List ℕ))) (x : Message (List ℕ)) (m k n : Member B) (text : List ℕ) (a : Answered) → Steps asks xs m k text → Called asks a k n (call_of x) → Steps asks (xs ++ x ∷ []) m n (text ++ line_text asks x a n)
  unfolding Steps
  one_more [] x m k n text a (same, none) called =
      let line = line_text asks x a n in
      (a, n, [], subst (λ j. Called asks a j n (call_of x)) same called, ap (λ t. t ++ line) none ∙ sym (append-nil line), (refl, refl))
  one_more (y ∷ xs) x m k n text a (b, j, rest, first, lines, others) called =
      let line = line_text asks x a n in
      (b, j, rest ++ line, first, ap (λ t. t ++ line) lines ∙ append_assoc (line_text asks y b j) rest line, one_more xs x j k n rest a others called)

  pub made_more : (xs : List (Message (List ℕ))) (x : Message (List ℕ)) (m k n : Member B) (u v w : Option (List ℕ)) (a : Answered) → Made asks xs m k u v → Called asks a k n (call_of x) → Appends v w (line_text asks x a n) → Made asks (xs ++ x ∷ []) m n u w
  made_more xs x m k n u v w a made called wrote =
      let line = line_text asks x a n in
      record { text = made.text ++ line; written = Appends-trans u v w made.text line made.written wrote; steps = one_more xs x m k n made.text a made.steps called }

  -- no call touches the queue
  pub queue_kept : (a : Answered) (m n : Member B) (c : Calling) → Called asks a m n c → n.queue ≡ m.queue
  queue_kept a m n (update bs) called = called.fixed.queue
  queue_kept a m n (judge b bs) called = called.fixed.queue
  queue_kept a m n end called = called.fixed.queue
  queue_kept a m n (wish p v k t) called = called.fixed.queue

  pub drained : {A E : Type 0} (r : Result A E) (xs ys : List (Message (List ℕ))) (m k n : Member B) (u v w : Option (List ℕ)) → OnOk r (Made asks ys k n v w) → ys ≡ xs → QueueAlone m k → Appends u v (first_line (length xs)) → OnOk r (Drained asks xs m n u w)
  drained (Ok x) xs ys m k n u v w made same others wrote =
      let line = first_line (length xs) in
      record { emptied = k; others = others; text = made.text; written = Appends-trans u v w line made.text wrote made.written; steps = subst (λ zs. Steps asks zs k n made.text) same made.steps }
  drained (Err e) xs ys m k n u v w made same others wrote = made
