use Rattle.std.proofs.Common.{◌≤◌, length, sym, subst, ◌∙◌}
use Rattle.stepping.proofs.running.run.Goals as goal

pub returns : goal.returns
returns g c =
    let made = c.new-member.ensures in
    let lent = c.lend.ensures in
    record {
      first = c.new-member.result;
      last = c.run-tally.new.self;
      begins = record {
        values = made.values;
        term_length = made.fixed.0;
        epoch = made.fixed.1;
        seats = made.fixed.2;
        quorum = made.fixed.3;
        board_is = made.board;
        no_effects = made.empty;
        nothing_waits = made.queue;
        fit = made.fits ∙ lent.memory;
        room = subst (λ list. 256 ≤ length list) (sym made.list) lent.effects;
      };
      ran = c.run-tally.ensures;
      open_asks = c.open_asks.ensures;
    }
