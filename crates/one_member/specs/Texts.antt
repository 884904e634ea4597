-- The words of a member's answers.
use Rattle.std.specs.Prelude.{ℕ, List, ◌++◌, codes}
use Rattle.answers.specs.Texts.{numbers_text, tables_text, record_text, taken_text, asks_text}
use Rattle.answers.specs.declared.answered.Answered.{Answered}
use Rattle.answers.specs.declared.answered.Answered.TheVariants.{Done, Refused, Asked, NotNeeded, Judged, Yes, No, Nothing, Served, Told, Waiting}
use Rattle.answers.specs.declared.answered.Answered.TheVariants as answered
use Rattle.board.specs.Left.{shown}
use Rattle.board.specs.declared.open.Open.{Open}
use Rattle.effects.specs.Lists.{entries}
use Rattle.listings.specs.Texts.{effects_text}
use Rattle.message_text.specs.Texts.{waiting_text}
use Rattle.one_member.specs.declared.member.Member.{Member}
use Rattle.queue.specs.Pendings.{queue_of}
use Rattle.refusals.specs.Shown.{refusal_text}
use Rattle.resolver.specs.Shown.{outcome_name}
use Rattle.state.specs.States.{held}

module _ {B : Type 0} (asks : B → List Open) where
  abbrev pub answer_text : Member B → Answered → List ℕ
  answer_text m Done = codes "ok" ++ effects_text (entries m.effects)
  answer_text m (Refused r) = refusal_text r
  answer_text m Asked = codes "asked"
  answer_text m NotNeeded = codes "not needed"
  answer_text m (Judged d) = outcome_name d.outcome ++ (taken_text d.taken ++ effects_text (entries m.effects))
  answer_text m Yes = codes "yes"
  answer_text m No = codes "no"
  answer_text m Nothing = codes "none"
  answer_text m (Served c) = record_text c
  answer_text m answered.Open = asks_text (shown (asks m.board))
  answer_text m Told = numbers_text (held m.resolver.calls.state) ++ tables_text (held m.resolver.calls.state)
  answer_text m Waiting = waiting_text (queue_of m.queue)
