use Rattle.std.proofs.Common.{arith, rules}
use Rattle.store.specs.Steps.{raised_effects, failing_effects}
use Rattle.store.proofs.Turns.{added_then}
use Rattle.store.proofs.store.Store.certified.Goals as goal

pub returns-then-success-clause-added : goal.returns-then-success-clause-added
unfolding raised_effects
returns-then-success-clause-added g c = rw c.if-success.true (λ roomy low new room free.
    added_then _ _ _ _ _ _ (rw c.view-view.ensures at c.push.ensures.added (omega (arith, free))) (omega (arith, free)) ((rw (c.remove.ensures.rows, c.view-view.ensures) at c.pass.ensures.added) (search rules) (search rules) new room))

pub returns-else-success-clause-added : goal.returns-else-success-clause-added
unfolding failing_effects
returns-else-success-clause-added g c = rw c.if-success.false (λ roomy low new room free.
    added_then _ _ _ _ _ _ (rw c.view-view.ensures at c.push.ensures.added (omega (arith, free))) (omega (arith, free)) ((rw c.view-view.ensures at c.fail.ensures.added) (search rules) room))
