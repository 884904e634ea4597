-- The mask of a quorum.
use Rattle.std.specs.Prelude.{◌≡◌, ◌+◌, ◌^◌, ◌<◌, true}
use Rattle.orders.specs.declared.setup.Setup.{Setup}
use Rattle.one_member.specs.declared.admitted.Admitted.{Admitted}
use Rattle.terms.specs.Terms.{views}
use Rattle.verifier.specs.Seats.{allowed}

-- what is made as it was asked for
pub record Made (s : Setup) (a : Admitted) : Type 0 where
  pub long : 0 < s.term_length
  pub quorum : allowed s.seats s.quorum ≡ true
  pub term_length : views a.term_length ≡ s.term_length
  pub epoch : a.epoch ≡ s.epoch
  pub verifier_seats : a.verifier.seats ≡ s.seats
  pub verifier_quorum : a.verifier.quorum ≡ s.quorum
  pub mask : a.seats + 1 ≡ 2 ^ s.quorum
  pub board : a.board ≡ s.board
