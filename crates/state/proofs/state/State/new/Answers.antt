use Rattle.std.proofs.Common.{◌≡◌, true, sym, subst, rules}
use Rattle.store.specs.Ready.{length_of, Roomy}
use Rattle.lawful.specs.Lawful.{Lawful}
use Rattle.state.proofs.Facts.{fresh_lawful}
use Rattle.state.proofs.state.State.new.Goals as goal

pub invariant_of-result : goal.invariant_of-result
invariant_of-result g c =
    let made = c.new.ensures in
    let roomy : c.suffices-fit.result ≡ true → Roomy c.new.result = λ t. let e = c.suffices-fit.ensures in search rules in
    record { roomy = roomy; lawful = subst (Lawful (length_of c.new.result)) (sym made.values) (fresh_lawful (length_of c.new.result)) }
