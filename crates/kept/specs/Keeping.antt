-- What the bytes of a kept record tell.
use Rattle.std.specs.Prelude.{◌≡◌, ℕ, cond, List, Ok, Err, Result, ◌==◌, slice_index}
use Rattle.record.specs.Certificates.{kind_in, proposal_in}
use Rattle.record.specs.Format.{reading}
use Rattle.record.specs.Numbers.{part, number}
use Rattle.record.specs.declared.certificate.Certificate.{Certificate}
use Rattle.record.specs.declared.fault.Fault.{Fault}
use Rattle.record.specs.declared.kind.Kind.{Kind}
use Rattle.record.specs.declared.kind.Kind.TheVariants.{Notarization, Nullification, Finalization}
use Rattle.kept.specs.declared.row.Kept.{Kept}

abbrev pub kept : List ℕ → Kept
kept bs = record { bytes = bs }

-- the kind by the first byte, for any byte
abbrev pub kind_at : ℕ → Kind
kind_at b = cond (b == 1) Notarization (cond (b == 3) Finalization Nullification)

abbrev pub sort_of : Kept → Kind
sort_of k = kind_at (slice_index k.bytes 0)

abbrev pub epoch_in : Kept → ℕ
epoch_in k = number (part 8 8 k.bytes)

abbrev pub view_in : Kept → ℕ
view_in k = number (part 16 8 k.bytes)

-- bytes that are a record are kept as they are
abbrev pub if_certificate : Result Certificate Fault → List ℕ → Result Kept Fault
if_certificate (Ok c) bs = Ok (kept bs)
if_certificate (Err f) bs = Err f

abbrev pub parsing : List ℕ → Result Kept Fault
parsing bs = if_certificate (reading bs) bs

-- a kept record tells what its certificate says
pub record Says (k : Kept) (c : Certificate) : Type 0 where
  pub kind : sort_of k ≡ kind_in c
  pub epoch : epoch_in k ≡ (proposal_in c).round.epoch
  pub view : view_in k ≡ (proposal_in c).round.view
