-- A kept record tells what its certificate says.
use Rattle.std.proofs.Common.{◌≡◌, ℕ, Ok, rules, sym}
use Rattle.std.specs.Prelude.{slice_index}
use Rattle.record.specs.Certificates.{kind_in}
use Rattle.record.specs.Format.{Placed}
use Rattle.record.specs.Kinds.{kind_of}
use Rattle.record.specs.declared.certificate.Certificate.{Certificate}
use Rattle.record.specs.declared.kind.Kind.{Kind}
use Rattle.kept.specs.declared.row.Kept.{Kept}
use Rattle.kept.specs.Keeping.{Says, kind_at}

kind_same : (b : ℕ) (k : Kind) → kind_of b ≡ Ok k → kind_at b ≡ k
kind_same b k e = search rules

pub says : (k : Kept) (c : Certificate) → Placed k.bytes c → Says k c
says k c p = record { kind = kind_same (slice_index k.bytes 0) (kind_in c) p.kind; epoch = sym p.epoch; view = sym p.view }
