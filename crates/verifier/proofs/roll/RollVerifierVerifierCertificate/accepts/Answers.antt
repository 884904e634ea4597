use Rattle.std.proofs.Common.{◌≡◌, ℕ, ◌*◌, ◌/◌, ◌+◌, ◌-◌, Bool, List, length, take, drop, sym, ap, ◌∙◌, arith}
use Rattle.std.specs.Str.{bytes_eq}
use Rattle.record.specs.Certificates.{written}
use Rattle.record.specs.Numbers.{part}
use Rattle.verifier.proofs.Records.{rolled_since, rolled_not, rolled_none}
use Rattle.verifier.proofs.roll.RollVerifierVerifierCertificate.accepts.Goals as goal

pub loop-i-init : goal.loop-i-init
loop-i-init c = rolled_none (written c.args.certificate.now) c.args.self.now.roll.now

-- the record at a place of the roll, by the range that is compared
compared : (i : ℕ) (roll bs ds : List ℕ) (b : Bool) → ds ≡ bs → b ≡ bytes_eq (take (96 * i + 96 - 96 * i) (drop (96 * i) roll)) ds → bytes_eq (part (96 * i) 96 roll) bs ≡ b
compared i roll bs ds b e q =
    let width : 96 * i + 96 - 96 * i ≡ 96 = omega arith in
    sym (q ∙ (ap (λ n. bytes_eq (take n (drop (96 * i) roll)) ds) width ∙ ap (bytes_eq (part (96 * i) 96 roll)) e))

pub returns-then-eq : goal.returns-then-eq
returns-then-eq c =
    let roll = c.args.self.now.roll.now in
    let bs = written c.args.certificate.now in
    let same = compared c.loop-i.i roll bs c.as_slice.result.now c.eq.result (c.as_slice.ensures ∙ c.write-bytes.ensures.value) c.eq.ensures ∙ c.if-eq.true in
    sym (rolled_since bs roll c.loop-i.i (length roll / 96) (omega arith) same)

pub loop-i-preserved : goal.loop-i-preserved
loop-i-preserved c =
    let roll = c.args.self.now.roll.now in
    let bs = written c.args.certificate.now in
    let other = compared c.loop-i.i roll bs c.as_slice.result.now c.eq.result (c.as_slice.ensures ∙ c.write-bytes.ensures.value) c.eq.ensures ∙ c.if-eq.false in
    rolled_not bs roll c.loop-i.i c.loop-i.invariant other
