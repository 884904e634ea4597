use Rattle.effects.proofs.Adding.{added_both, filled_both}
use Rattle.effects.proofs.listed.Effects.push.Goals as goal

pub returns-then-self-clause-added_both : goal.returns-then-self-clause-added_both
returns-then-self-clause-added_both c = added_both

pub returns-then-self-clause-filled_both : goal.returns-then-self-clause-filled_both
returns-then-self-clause-filled_both c = filled_both

pub returns-clause-added_both : goal.returns-clause-added_both
returns-clause-added_both c = added_both

pub returns-clause-filled_both : goal.returns-clause-filled_both
returns-clause-filled_both c = filled_both
