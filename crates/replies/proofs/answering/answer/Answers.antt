use Rattle.std.proofs.Common.{rules, refl, [], Ok, Err}
use Rattle.std.proofs.KnownBytes.{Appends-nil}
use Rattle.one_member.specs.Texts.{answer_text}
use Rattle.orders.specs.Orders.{meant}
use Rattle.replies.specs.Replies.{Making, Mistaken, AnsweredBy, line_of}
use Rattle.replies.proofs.Told.{understood, not_understood, wrote_more}
use Rattle.replies.proofs.answering.answer.Goals as goal
use Rattle.script.specs.Answers.{text_of}
use Rattle.script.specs.Lines.{nothing, answered, making, ordered, draining}

pub returns-in-Ok-Nothing : goal.returns-in-Ok-Nothing
returns-in-Ok-Nothing g c = record {
  answer = [];
  written = Appends-nil (g.W.Write.contents c.args.out.now);
  told = record { taken = Ok nothing; is = understood _ _ (rw (c.defaults.ensures, c.in-Ok-Nothing.field-0-is) at c.in-Ok-Nothing.ensures); told = ((refl, refl), refl) };
}

pub returns-in_ok-writeln-in-Ok-Answer : goal.returns-in_ok-writeln-in-Ok-Answer
returns-in_ok-writeln-in-Ok-Answer g c = record {
  answer = line_of (text_of c.in-Ok-Answer.answer);
  written = search rules;
  told = record { taken = Ok (answered c.in-Ok-Answer.answer); is = understood _ _ (rw (c.defaults.ensures, c.in-Ok-Answer.field-0-is) at c.in-Ok-Answer.ensures); told = ((refl, refl), refl) };
}

pub returns-in-Ok-Member : goal.returns-in-Ok-Member
returns-in-Ok-Member g c =
    wrote_more c.make.result (g.W.Write.contents c.args.out.now) (g.W.Write.contents c.make.new.out) (Making c.in-Ok-Member.setup) (λ t answer. AnsweredBy g.B.Board.asks c.args.line c.args.text.now t c.args.member.now c.args.member.now answer)
    (λ t answer made. record { taken = Ok (making c.in-Ok-Member.setup); is = understood _ _ (rw (c.defaults.ensures, c.in-Ok-Member.field-0-is) at c.in-Ok-Member.ensures); told = (made, refl) })
    c.make.ensures

pub returns-in_ok-writeln-in-Ok-Order : goal.returns-in_ok-writeln-in-Ok-Order
returns-in_ok-writeln-in-Ok-Order g c = record {
  answer = line_of (answer_text g.B.Board.asks c.carry_out-answered.new.self c.carry_out-answered.result);
  written = search rules;
  told = record { taken = Ok (ordered (meant c.in-Ok-Order.order)); is = understood _ _ (rw (c.defaults.ensures, c.in-Ok-Order.field-0-is) at c.in-Ok-Order.ensures); told = (refl, c.carry_out-answered.result, c.carry_out-answered.ensures, refl) };
}

pub returns-in_ok-drain-in-Ok-Drain : goal.returns-in_ok-drain-in-Ok-Drain
returns-in_ok-drain-in-Ok-Drain g c =
    let d = c.in_ok-drain-in-Ok-Drain.ensures.calls in
    record {
      answer = _;
      written = d.written;
      told = record { taken = Ok (draining c.in-Ok-Drain.count); is = understood _ _ (rw (c.defaults.ensures, c.in-Ok-Drain.field-0-is) at c.in-Ok-Drain.ensures); told = (refl, c.in_ok-drain-in-Ok-Drain.ensures.queue, d.emptied, d.others, d.text, refl, d.steps) };
    }

pub returns-in-Err : goal.returns-in-Err
returns-in-Err g c =
    wrote_more c.complain.result (g.W.Write.contents c.args.out.now) (g.W.Write.contents c.complain.new.out) (Mistaken c.args.line c.in-Err.problem) (λ t answer. AnsweredBy g.B.Board.asks c.args.line c.args.text.now t c.args.member.now c.args.member.now answer)
    (λ t answer told. record { taken = Err c.in-Err.problem; is = not_understood _ _ (rw c.defaults.ensures at c.in-Err.ensures); told = (told, refl) })
    c.complain.ensures
