use Rattle.std.proofs.Common.{IfOk, subst, sym}
use Rattle.replies.specs.Lives.{LifeOn}
use Rattle.replies.proofs.lives.one_life.Goals as goal

pub returns-in-Rows-clause-life : goal.returns-in-Rows-clause-life
returns-in-Rows-clause-life g c = subst (λ k. IfOk c.on_rows.result (λ next. LifeOn g.A.Asker.given g.A.Asker.taken k c.args.admitted c.args.asker.now next c.on_rows.new.asker)) (sym c.in-Rows.is) c.on_rows.ensures.life

pub returns-in-List-clause-life : goal.returns-in-List-clause-life
returns-in-List-clause-life g c = subst (λ k. IfOk c.on_list.result (λ next. LifeOn g.A.Asker.given g.A.Asker.taken k c.args.admitted c.args.asker.now next c.on_list.new.asker)) (sym c.in-List.is) c.on_list.ensures.life
