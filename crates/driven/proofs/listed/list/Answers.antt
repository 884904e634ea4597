use Rattle.std.proofs.Common.{rules}
use Rattle.driven.specs.Lists.{row_of}
use Rattle.driven.proofs.Written.{written_more}
use Rattle.driven.proofs.listed.list.Goals as goal

pub loop-i-preserved : goal.loop-i-preserved
loop-i-preserved c =
    (c.loop-i.invariant.0, written_more row_of c.args.effects.now c.args.listed.now.effects c.loop-i.listed.effects c.loop-i.i _ c.row.result (search rules) (search rules) c.loop-i.invariant.1 c.row.ensures)
