-- Reading and writing undo each other, and what is read stands at its place.
use Rattle.std.proofs.Common.{◌≡◌, ℕ, ◌+◌, ◌≤◌, true, eqb, List, ◌∷◌, ◌++◌, length, get_or, take, drop, replicate, is_ok, IfOk, Ok, Err, Decides, Result, sym, refl, ap, ◌∙◌, inl, inr, arith, Fits-lit, w8, Fits}
use Rattle.std.proofs.lemmas.List.{drop-drop, get_or-drop, get_or_past, get_or-take, length-append, length-drop, length-take, length-take-le}
use Rattle.std.proofs.lemmas.Bool.{cond_both, cond-true, cases_lt, eq-eqb, eqb-true, and_parts, and_from, false≢true}
use Rattle.record.specs.Certificates.{kind_in, proposal_in, proof_in, Sized, framed, written}
use Rattle.record.specs.Format.{proposal_at, proof_at, admits, body_read, certificate, head_read, reading, Formed, Placed}
use Rattle.record.specs.Kinds.{kind_of, byte_of}
use Rattle.record.specs.Numbers.{part, number, bytes_of, zeros}
use Rattle.record.specs.declared.certificate.Certificate.{Certificate}
use Rattle.record.specs.declared.certificate.Certificate.TheVariants.{Notarization, Nullification, Finalization}
use Rattle.record.specs.declared.certificate.Proof.{Proof}
use Rattle.record.specs.declared.certificate.Proposal.{Proposal}
use Rattle.record.specs.declared.fault.Fault.{Fault}
use Rattle.record.specs.declared.kind.Kind.{Kind}
use Rattle.record.specs.declared.kind.Kind.TheVariants as kind
use Rattle.record.proofs.Frames.{joined, headed, parted}
use Rattle.record.proofs.Numbers.{length_bytes, number_bytes, bytes_number, zeros_are}

-- what a certificate that was made holds
kind_made : (k : Kind) (p : Proposal) (s : Proof) → kind_in (certificate k p s) ≡ k
kind_made kind.Notarization p s = refl
kind_made kind.Nullification p s = refl
kind_made kind.Finalization p s = refl

proof_made : (k : Kind) (p : Proposal) (s : Proof) → proof_in (certificate k p s) ≡ s
proof_made kind.Notarization p s = refl
proof_made kind.Nullification p s = refl
proof_made kind.Finalization p s = refl

proposal_made : (k : Kind) (p : Proposal) (s : Proof) → length p.payload.0 ≡ 32 → admits k p ≡ true → proposal_in (certificate k p s) ≡ p
proposal_made kind.Notarization p s l a = refl
proposal_made kind.Finalization p s l a = refl
proposal_made kind.Nullification p s l a =
    let b = and_parts (eqb p.parent 0) (zeros p.payload.0) a in
    let e = eqb-true p.parent 0 b.0 in
    let z = zeros_are p.payload.0 b.1 ∙ ap (λ n. replicate n 0) l in
    λ i. record { round = p.round; parent = sym e i; payload = record { 0 = sym z i } }

byte_kind : (k : Kind) → kind_of (byte_of k) ≡ Ok k
byte_kind kind.Notarization = refl
byte_kind kind.Nullification = refl
byte_kind kind.Finalization = refl

kind_byte : (b : ℕ) (k : Kind) → kind_of b ≡ Ok k → b ≡ byte_of k
kind_byte b k =
    cond_both (eqb b 1) _ _ (λ r. r ≡ Ok k → b ≡ byte_of k) (λ t e. let q : kind.Notarization ≡ k = cc in eqb-true b 1 t ∙ ap byte_of q) (λ _.
    cond_both (eqb b 2) _ _ (λ r. r ≡ Ok k → b ≡ byte_of k) (λ t e. let q : kind.Nullification ≡ k = cc in eqb-true b 2 t ∙ ap byte_of q) (λ _.
    cond_both (eqb b 3) _ _ (λ r. r ≡ Ok k → b ≡ byte_of k) (λ t e. let q : kind.Finalization ≡ k = cc in eqb-true b 3 t ∙ ap byte_of q) (λ _ e.
    let z : ◌≡◌ {A = ℕ} 0 1 = cc in absurd (omega arith))))

-- a part of the bytes after the first eight, by its place in the record
shifted : (at n : ℕ) (bs : List ℕ) → part at n (drop 8 bs) ≡ part (8 + at) n bs
shifted at n bs = ap (take n) (drop-drop at 8 bs)

-- a part of bytes has bytes
fits_part : (at n : ℕ) (bs : List ℕ) → ((i : ℕ) → Fits w8 (get_or bs i 0)) → (i : ℕ) → Fits w8 (get_or (part at n bs) i 0)
fits_part at n bs fits i = elim (cases_lt i n) [
  | inl low ↦ rw (get_or-take n (drop at bs) i 0 low, get_or-drop at bs i 0) (fits (at + i))
  | inr high ↦ rw (get_or_past (part at n bs) i 0 (omega (arith, length-take n (drop at bs)))) (Fits-lit tt)
]

-- eight bytes are those of the number that they write
word_back : (at : ℕ) (bs : List ℕ) → at + 8 ≤ length bs → ((i : ℕ) → Fits w8 (get_or bs i 0)) → bytes_of 8 (number (part at 8 bs)) ≡ part at 8 bs
word_back at bs l fits =
    let n = length-take-le 8 (drop at bs) (omega (arith, length-drop at bs)) in
    ap (λ k. bytes_of k (number (part at 8 bs))) (sym n) ∙ bytes_number (part at 8 bs) (fits_part at 8 bs fits)

written_made : (k : Kind) (p : Proposal) (s : Proof) → length p.payload.0 ≡ 32 → admits k p ≡ true → written (certificate k p s) ≡ framed k p s
unfolding written
written_made k p s l a = λ i. framed (kind_made k p s i) (proposal_made k p s l a i) (proof_made k p s i)

-- only a nullification's byte is 2
allowed_from : (b : ℕ) (k : Kind) (p : Proposal) → kind_of b ≡ Ok k → (b ≡ 2 → (p.parent ≡ 0) × (zeros p.payload.0 ≡ true)) → admits k p ≡ true
allowed_from b kind.Notarization p e h = refl
allowed_from b kind.Finalization p e h = refl
allowed_from b kind.Nullification p e h =
    let f = h (kind_byte b kind.Nullification e) in
    and_from (eqb p.parent 0) (zeros p.payload.0) (eq-eqb p.parent 0 f.0) f.1

blank_from : (b : ℕ) (k : Kind) (p : Proposal) → kind_of b ≡ Ok k → admits k p ≡ true → b ≡ 2 → (p.parent ≡ 0) × (zeros p.payload.0 ≡ true)
blank_from b kind.Notarization p e a t = absurd (omega (arith, kind_byte b kind.Notarization e))
blank_from b kind.Finalization p e a t = absurd (omega (arith, kind_byte b kind.Finalization e))
blank_from b kind.Nullification p e a t =
    let f = and_parts (eqb p.parent 0) (zeros p.payload.0) a in
    (eqb-true p.parent 0 f.0, f.1)

ok_is : (r : Result Kind Fault) → is_ok r ≡ true → (k : Kind) × (r ≡ Ok k)
ok_is (Ok k) t = (k, refl)
ok_is (Err f) t = absurd (false≢true t)

from_made : (r : Result Certificate Fault) (Q : Type 0) → IfOk r (λ _. Q) → is_ok r ≡ true → Q
from_made (Ok c) Q q t = q
from_made (Err f) Q q t = absurd (false≢true t)

module _ (bs : List ℕ) where
  -- the tests that bytes pass up to a certificate of a kind
  record Passes (k : Kind) : Type 0 where
    long : length bs ≡ 96
    reserved : zeros (part 1 7 bs) ≡ true
    known : kind_of (get_or bs 0 0) ≡ Ok k
    allowed : admits k (proposal_at (drop 8 bs)) ≡ true

  -- what holds of whatever is read, if it holds of a certificate that passes every test
  by_tests : (P : Certificate → Type 0) → ((k : Kind) → Passes k → P (certificate k (proposal_at (drop 8 bs)) (proof_at (drop 8 bs)))) → IfOk (reading bs) P
  unfolding reading
  by_tests P all =
      cond_both (eqb (length bs) 96) _ _ (λ (r : Result Certificate Fault). IfOk r P) (λ l.
      cond_both (zeros (part 1 7 bs)) _ _ (λ (r : Result Certificate Fault). IfOk r P) (λ z. go (eqb-true (length bs) 96 l) z (kind_of (get_or bs 0 0)) refl) (λ _. tt)) (λ _. tt)
    where
      go : length bs ≡ 96 → zeros (part 1 7 bs) ≡ true → (k : Result Kind Fault) → kind_of (get_or bs 0 0) ≡ k → IfOk {T = Certificate} {E = Fault} (head_read k (drop 8 bs)) P
      go l z (Err f) e = tt
      go l z (Ok k) e = cond_both (admits k (proposal_at (drop 8 bs))) _ _ (λ (r : Result Certificate Fault). IfOk r P) (λ a. all k (record { long = l; reserved = z; known = e; allowed = a })) (λ _. tt)

  -- bytes that begin as a record are read by what follows
  pub opened : (k : Kind) → length bs ≡ 96 → zeros (part 1 7 bs) ≡ true → kind_of (get_or bs 0 0) ≡ Ok k → reading bs ≡ body_read k (drop 8 bs)
  unfolding reading
  opened k long reserved known =
      cond-true (eqb (length bs) 96) _ _ (eq-eqb (length bs) 96 long) ∙ cond-true (zeros (part 1 7 bs)) _ _ reserved ∙ ap (λ r. head_read r (drop 8 bs)) known

  -- and bytes that pass the tests are read
  passed : (k : Kind) → Passes k → reading bs ≡ Ok (certificate k (proposal_at (drop 8 bs)) (proof_at (drop 8 bs)))
  passed k p = opened k p.long p.reserved p.known ∙ cond-true (admits k (proposal_at (drop 8 bs))) _ _ p.allowed

  payload_long : length bs ≡ 96 → length (proposal_at (drop 8 bs)).payload.0 ≡ 32
  payload_long l = length-take-le 32 (drop 24 (drop 8 bs)) (omega (arith, length-drop 24 (drop 8 bs), length-drop 8 bs))

  pub read_placed : IfOk (reading bs) (Placed bs)
  read_placed = by_tests (Placed bs) (λ k p.
      let made-p = proposal_made k (proposal_at (drop 8 bs)) (proof_at (drop 8 bs)) (payload_long p.long) p.allowed in
      record {
        kind = p.known ∙ ap Ok (sym (kind_made k _ _));
        epoch = ap (λ x. x.round.epoch) made-p ∙ ap number (shifted 0 8 bs);
        view = ap (λ x. x.round.view) made-p ∙ ap number (shifted 8 8 bs);
        parent = ap (λ x. x.parent) made-p ∙ ap number (shifted 16 8 bs);
        payload = ap (λ x. x.payload.0) made-p ∙ shifted 24 32 bs;
        proof = ap (λ x. x.0) (proof_made k _ _) ∙ shifted 56 32 bs;
      })

  pub read_written : ((i : ℕ) → Fits w8 (get_or bs i 0)) → IfOk (reading bs) (λ c. written c ≡ bs)
  unfolding framed
  read_written fits = by_tests (λ c. written c ≡ bs) (λ k p.
      let l = length-drop 8 bs in
      let n = p.long in
      let after : (i : ℕ) → Fits w8 (get_or (drop 8 bs) i 0) = λ i. rw (get_or-drop 8 bs i 0) (fits (8 + i)) in
      let whole = joined (drop 8 bs) _ _ _ _ _ (omega arith) (word_back 0 (drop 8 bs) (omega arith) after) (word_back 8 (drop 8 bs) (omega arith) after) (word_back 16 (drop 8 bs) (omega arith) after) refl refl in
      let clear = zeros_are (part 1 7 bs) p.reserved ∙ ap (λ m. replicate m 0) (length-take-le 7 (drop 1 bs) (omega (arith, length-drop 1 bs))) in
      written_made k _ _ (payload_long p.long) p.allowed ∙ ap (λ rest. byte_of k ∷ (replicate 7 0 ++ rest)) whole ∙ headed bs (byte_of k) (omega arith) (kind_byte (get_or bs 0 0) k p.known) clear)

  pub read_formed : Decides (is_ok (reading bs)) (Formed bs)
  read_formed = (
    from_made (reading bs) (Formed bs) (by_tests (λ _. Formed bs) (λ k p. record {
      long = p.long;
      known = ap is_ok p.known;
      reserved = p.reserved;
      blank = λ two. let f = blank_from (get_or bs 0 0) k _ p.known p.allowed two in (sym (ap number (shifted 16 8 bs)) ∙ f.0, sym (ap zeros (shifted 24 32 bs)) ∙ f.1);
    })),
    λ f. let k = ok_is (kind_of (get_or bs 0 0)) f.known in
        ap is_ok (passed k.0 (record {
          long = f.long;
          reserved = f.reserved;
          known = k.1;
          allowed = allowed_from (get_or bs 0 0) k.0 _ k.1 (λ two. let b = f.blank two in (ap number (shifted 16 8 bs) ∙ b.0, ap zeros (shifted 24 32 bs) ∙ b.1));
        })),
  )

-- a certificate is made of what it holds
made_of : (c : Certificate) → certificate (kind_in c) (proposal_in c) (proof_in c) ≡ c
made_of (Notarization p s) = refl
made_of (Nullification r s) = refl
made_of (Finalization p s) = refl

allowed_of : (c : Certificate) → admits (kind_in c) (proposal_in c) ≡ true
allowed_of (Notarization p s) = refl
allowed_of (Nullification r s) = refl
allowed_of (Finalization p s) = refl

module _ (c : Certificate) (w : Sized (proposal_in c) (proof_in c)) where
  fields : List ℕ
  fields = bytes_of 8 (proposal_in c).round.epoch ++ (bytes_of 8 (proposal_in c).round.view ++ (bytes_of 8 (proposal_in c).parent ++ ((proposal_in c).payload.0 ++ (proof_in c).0)))

  pub written_read : reading (written c) ≡ Ok c
  unfolding framed written fields
  written_read =
      let p = proposal_in c in
      let s = proof_in c in
      let parts = parted (bytes_of 8 p.round.epoch) (bytes_of 8 p.round.view) (bytes_of 8 p.parent) p.payload.0 s.0 (length_bytes 8 _) (length_bytes 8 _) (length_bytes 8 _) w.payload w.proof in
      let back : proposal_at fields ≡ p = λ i. record {
        round = record {
          epoch = (ap number parts.epoch ∙ number_bytes 8 p.round.epoch w.epoch) i;
          view = (ap number parts.view ∙ number_bytes 8 p.round.view w.view) i;
        };
        parent = (ap number parts.parent ∙ number_bytes 8 p.parent w.parent) i;
        payload = record { 0 = parts.payload i };
      } in
      let proved : proof_at fields ≡ s = λ i. record { 0 = parts.proof i } in
      passed (written c) (kind_in c) (record {
        long = simp length-append (omega (arith, length_bytes 8 p.round.epoch, length_bytes 8 p.round.view, length_bytes 8 p.parent, w.payload, w.proof));
        reserved = refl;
        known = byte_kind (kind_in c);
        allowed = ap (admits (kind_in c)) back ∙ allowed_of c;
      }) ∙ ap Ok ((λ i. certificate (kind_in c) (back i) (proved i)) ∙ made_of c)

-- the bytes of a certificate's parts are read back
pub read_back : (bs : List ℕ) (c : Certificate) → bs ≡ framed (kind_in c) (proposal_in c) (proof_in c) → Sized (proposal_in c) (proof_in c) → reading bs ≡ Ok c
unfolding written
read_back bs c e w = ap reading e ∙ written_read c w
