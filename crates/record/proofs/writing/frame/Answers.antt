use Rattle.std.proofs.Common.{◌≡◌, length, rules}
use Rattle.record.specs.Certificates.{framed}
use Rattle.record.proofs.Frames.{assembled}
use Rattle.record.proofs.Numbers.{length_bytes}
use Rattle.record.proofs.writing.frame.Goals as goal

pub returns-clause-value : goal.returns-clause-value
unfolding framed
returns-clause-value c =
    let payload : length c.args.proposal.now.payload.0 ≡ 32 = search rules in
    let proof : length c.args.proof.now.0 ≡ 32 = search rules in
    assembled _ _ _ _ _ _ _ _ _ _ _ _ c.from.ensures.0 (length_bytes 8 _) (length_bytes 8 _) (length_bytes 8 _) payload proof c.put_number.ensures.bytes c.put_number-2.ensures.bytes c.put_number-3.ensures.bytes c.put.ensures c.put-2.ensures
