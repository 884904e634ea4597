use Rattle.std.proofs.Common.{false, true, sym, subst}
use Rattle.std.proofs.lemmas.Bool.{false≢true}
use Rattle.store.specs.Ready.{length_of}
use Rattle.lawful.specs.Lawful.{Lawful}
use Rattle.state.proofs.Facts.{fresh_lawful}
use Rattle.state.proofs.state.State.resume.Goals as goal

pub invariant_of-result-2 : goal.invariant_of-result-2
invariant_of-result-2 g c =
    let L = length_of c.clear.new.self in
    record { roomy = λ e. absurd (false≢true e); lawful = subst (Lawful L) (sym c.clear.ensures.is) (fresh_lawful L) }
