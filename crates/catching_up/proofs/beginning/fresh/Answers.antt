use Rattle.std.proofs.Common.{◌≡◌, [], refl, subst, sym, ap, ◌∙◌}
use Rattle.history.specs.Uses.{use_of, Reached, made}
use Rattle.one_member.specs.Carried.{epoch_in}
use Rattle.record.specs.Certificates.{kind_in}
use Rattle.verifier.specs.Seats.{seats_accept}
use Rattle.catching_up.proofs.beginning.fresh.Goals as goal

pub returns-clause-lives : goal.returns-clause-lives
returns-clause-lives g c none =
    let m = c.new.result in
    let s = m.resolver.calls.state in
    let going = use_of s (seats_accept m.verifier.seats m.verifier.quorum) in
    let empty : g.B.Board.asks m.board ≡ [] = ap g.B.Board.asks c.new.ensures.board ∙ none in
    record {
      going = going;
      calls = [];
      verifier = refl;
      reached = subst (λ os. Reached kind_in epoch_in going [] s os) (sym empty) (made c.new.ensures.values (record { length = refl; epoch = refl; fit = refl }));
    }
