-- A line that makes no member.
use Rattle.std.proofs.Common.{◌≡◌, None, refl}
use Rattle.one_member.specs.declared.admitted.Admitted.{Admitted}
use Rattle.replies.specs.Turns.{made_by}
use Rattle.replies.specs.declared.turn.Turn.{Turn}
use Rattle.replies.specs.declared.turn.Turn.TheVariants.{Answered, NoCommand, Member}

pub makes_none : (t : Turn) → ((a : Admitted) → t ≡ Member a → ⊥) → made_by t ≡ None
makes_none Answered other = refl
makes_none NoCommand other = refl
makes_none (Member a) other = absurd (other a refl)
