use Rattle.std.proofs.Common.{get_or, sym, ap, ◌∙◌}
use Rattle.effects.specs.declared.effect.Effect.{Effect}
use Rattle.effects.specs.declared.effect.Effect.TheVariants.{Fetch}
use Rattle.effects.specs.declared.effect.FetchReason.TheVariants.{MissingNullification}
use Rattle.resolver.specs.Applied.{ended}
use Rattle.resolver.proofs.Applied.{none_yet, next_done}
use Rattle.resolver.proofs.applying.end_all.Goals as goal

pub loop-effect-init : goal.loop-effect-init
loop-effect-init g c = sym (none_yet ended (g.B.Board.asks c.args.board.now))

pub loop-effect-preserved : goal.loop-effect-preserved
loop-effect-preserved g c =
    let first : Effect = Fetch 0 0 MissingNullification in
    let e = get_or c.args.effects.now c.loop-effect.effect-index first in
    c.end.ensures ∙ (ap (ended e) c.loop-effect.invariant ∙ sym (next_done ended c.args.effects.now c.loop-effect.effect-index first (g.B.Board.asks c.args.board.now) c.loop-effect-test.true))
