use Rattle.std.proofs.Common.{◌<◌, length, arith}
use Rattle.row_board.specs.Rows.{fresh, closed}
use Rattle.row_board.proofs.Entries.{mapped_more}
use Rattle.row_board.proofs.asking.close_all.Goals as goal

pub loop-i-preserved : goal.loop-i-preserved
loop-i-preserved c =
    let within : c.loop-i.i < length c.args.rows.now = omega arith in
    mapped_more (closed c.args.retire.now) c.args.rows.now c.loop-i.rows c.loop-i.i (fresh 0) c.close.new.self within c.loop-i.invariant c.close.ensures
