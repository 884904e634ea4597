-- What is known of a member that was only ever called.
use Rattle.std.specs.Prelude.{◌≡◌, List}
use Rattle.board.specs.declared.open.Open.{Open}
use Rattle.history.specs.Events.{Event, Use}
use Rattle.history.specs.Uses.{Reached}
use Rattle.one_member.specs.Carried.{epoch_in}
use Rattle.one_member.specs.declared.member.Member.{Member}
use Rattle.record.specs.Certificates.{kind_in}
use Rattle.record.specs.declared.certificate.Certificate.{Certificate}
use Rattle.verifier.specs.Seats.{seats_accept}

-- calls of its resolver, from the making on, have led to where it is
pub record Lived {B : Type 0} (asks : B → List Open) (m : Member B) : Type 0 where
  pub going : Use Certificate
  pub calls : List (Event Certificate)
  pub verifier : going.approved ≡ seats_accept m.verifier.seats m.verifier.quorum
  pub reached : Reached kind_in epoch_in going calls m.resolver.calls.state (asks m.board)
