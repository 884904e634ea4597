-- What the memory of a member was made into.
use Rattle.std.specs.Prelude.{◌≡◌, true}
use Rattle.row_board.specs.Boards.{open_asks}
use Rattle.state.specs.States.{held, term, epoch_of, fits}
use Rattle.driven.specs.declared.member.Member.{Member}
use Rattle.driven.specs.declared.resuming.Driven.{Driven}
use Rattle.driven.specs.Members.{Sound, values_of, asks_of}

pub record ResumedAs (m : Member) (d : Driven) : Type 0 where
  pub sound : Sound m
  pub values : held d.resolver.state ≡ values_of m
  pub term : term d.resolver.state ≡ m.head.term_length
  pub epoch : epoch_of d.resolver.state ≡ m.head.epoch
  pub fits : fits d.resolver.state ≡ true
  pub asks : open_asks d.board ≡ asks_of m
