use Rattle.record.proofs.Laws.{read_back}
use Rattle.record.proofs.certificate.Certificate.write.Goals as goal

pub returns-in-Notarization-clause-reads_back : goal.returns-in-Notarization-clause-reads_back
returns-in-Notarization-clause-reads_back c = rw c.in-Notarization.is (read_back _ _ c.frame.ensures.value c.frame.ensures.sized)

pub returns-in-Finalization-clause-reads_back : goal.returns-in-Finalization-clause-reads_back
returns-in-Finalization-clause-reads_back c = rw c.in-Finalization.is (read_back _ _ c.frame-in-Finalization.ensures.value c.frame-in-Finalization.ensures.sized)

pub returns-in-Nullification-clause-reads_back : goal.returns-in-Nullification-clause-reads_back
returns-in-Nullification-clause-reads_back c = rw c.in-Nullification.is (read_back _ _ c.frame-in-Nullification.ensures.value c.frame-in-Nullification.ensures.sized)
