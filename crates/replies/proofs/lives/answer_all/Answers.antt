use Rattle.replies.specs.Lives.{first, another}
use Rattle.replies.proofs.lives.answer_all.Goals as goal

pub loop-next-init : goal.loop-next-init
loop-next-init g c = first c.in_ok-next.ensures.talk

pub loop-next-preserved : goal.loop-next-preserved
loop-next-preserved g c = another c.in-Some.admitted (rw c.in-Some.is at c.loop-next.invariant) c.in_ok-next-2.ensures.life
