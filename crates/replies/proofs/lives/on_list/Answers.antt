use Rattle.std.proofs.Common.{◌≤◌, length, sym, ap, subst, ◌∙◌}
use Rattle.board.specs.Sorting.{sorted}
use Rattle.list_board.specs.Lists.{asks_of}
use Rattle.replies.specs.Replies.{AnsweredBy}
use Rattle.replies.specs.Lives.{Fresh, Life}
use Rattle.replies.specs.Talks.{Talk}
use Rattle.replies.proofs.Buffers.{says_more}
use Rattle.replies.proofs.lives.on_list.Goals as goal

pub returns-clause-life : goal.returns-clause-life
unfolding sorted
returns-clause-life g c =
    let made = c.new-member.ensures in
    let lent = c.lend.ensures in
    let begun : Fresh asks_of c.args.admitted c.new-member.result = record {
      values = made.values;
      term_length = made.fixed.0;
      epoch = made.fixed.1;
      verifier = made.fixed.2;
      seats = made.fixed.3;
      board = ap asks_of made.board ∙ ap (λ list. sorted list) c.new.ensures;
      effects = made.empty;
      queue = made.queue;
      memory = made.fits ∙ lent.memory;
      list = subst (λ list. 256 ≤ length list) (sym made.list) lent.effects;
    } in
    says_more c.talk.result
    (λ next. Talk g.A.Asker.given g.A.Asker.taken (AnsweredBy asks_of) c.args.asker.now c.new-member.result next c.talk.new.asker c.talk.new.answerer)
    (λ next. Life g.A.Asker.given g.A.Asker.taken asks_of c.args.admitted c.args.asker.now next c.talk.new.asker)
    (λ next talk. record { begun = c.new-member.result; ended = c.talk.new.answerer; is_fresh = begun; talk = talk })
    c.talk.ensures.talk
