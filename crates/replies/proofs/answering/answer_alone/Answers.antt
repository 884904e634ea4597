use Rattle.std.proofs.Common.{rules, refl, [], Ok, Err}
use Rattle.std.proofs.KnownBytes.{Appends-nil}
use Rattle.replies.specs.Replies.{Making, Mistaken, AnsweredAlone, line_of}
use Rattle.replies.proofs.Told.{understood, not_understood, wrote_more}
use Rattle.orders.specs.Orders.{meant}
use Rattle.words.specs.declared.problem.Problem.TheVariants.{NoMember}
use Rattle.replies.proofs.answering.answer_alone.Goals as goal
use Rattle.script.specs.Answers.{text_of}
use Rattle.script.specs.Lines.{nothing, answered, making, ordered, draining}

pub returns-in-Ok-Nothing : goal.returns-in-Ok-Nothing
returns-in-Ok-Nothing g c = record {
  answer = [];
  written = Appends-nil (g.W.Write.contents c.args.out.now);
  told = record { taken = Ok nothing; is = understood _ _ (rw c.in-Ok-Nothing.field-0-is at c.in-Ok-Nothing.ensures); told = (refl, refl) };
}

pub returns-in-Ok-Answer : goal.returns-in-Ok-Answer
returns-in-Ok-Answer g c = record {
  answer = line_of (text_of c.in-Ok-Answer.answer);
  written = search rules;
  told = record { taken = Ok (answered c.in-Ok-Answer.answer); is = understood _ _ (rw c.in-Ok-Answer.field-0-is at c.in-Ok-Answer.ensures); told = (refl, refl) };
}

pub returns-in-Ok-Member : goal.returns-in-Ok-Member
returns-in-Ok-Member g c =
    wrote_more c.make.result (g.W.Write.contents c.args.out.now) (g.W.Write.contents c.make.new.out) (Making c.in-Ok-Member.setup) (AnsweredAlone c.args.line c.args.text.now)
    (λ t answer made. record { taken = Ok (making c.in-Ok-Member.setup); is = understood _ _ (rw c.in-Ok-Member.field-0-is at c.in-Ok-Member.ensures); told = made })
    c.make.ensures

pub returns-in-Ok-Order : goal.returns-in-Ok-Order
returns-in-Ok-Order g c =
    wrote_more c.complain.result (g.W.Write.contents c.args.out.now) (g.W.Write.contents c.complain.new.out) (Mistaken c.args.line NoMember) (AnsweredAlone c.args.line c.args.text.now)
    (λ t answer told. record { taken = Ok (ordered (meant _)); is = understood _ _ (rw c.in-Ok-Order.field-0-is at c.in-Ok-Order.ensures); told = told })
    c.complain.ensures

pub returns-in-Ok-Drain : goal.returns-in-Ok-Drain
returns-in-Ok-Drain g c =
    wrote_more c.complain-in-Ok-Drain.result (g.W.Write.contents c.args.out.now) (g.W.Write.contents c.complain-in-Ok-Drain.new.out) (Mistaken c.args.line NoMember) (AnsweredAlone c.args.line c.args.text.now)
    (λ t answer told. record { taken = Ok (draining _); is = understood _ _ (rw c.in-Ok-Drain.field-0-is at c.in-Ok-Drain.ensures); told = told })
    c.complain-in-Ok-Drain.ensures

pub returns : goal.returns
returns g c =
    wrote_more c.complain-in-Err.result (g.W.Write.contents c.args.out.now) (g.W.Write.contents c.complain-in-Err.new.out) (Mistaken c.args.line c.in-Err.problem) (AnsweredAlone c.args.line c.args.text.now)
    (λ t answer told. record { taken = Err c.in-Err.problem; is = not_understood _ _ c.in-Err.ensures; told = told })
    c.complain-in-Err.ensures
