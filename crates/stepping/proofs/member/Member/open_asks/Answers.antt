use Rattle.std.proofs.Common.{◌+◌, ◌%◌, not, refl, ap, ◌∙◌}
use Rattle.std.proofs.lemmas.List.Filters.{length-filter_both}
use Rattle.board.specs.Asks.{is_background}
use Rattle.board.specs.declared.board.Counts.{Counts}
use Rattle.board.specs.declared.open.Open.{Open}
use Rattle.stepping.proofs.member.Member.open_asks.Goals as goal

-- each open ask is for the background, or it is not
pub returns : goal.returns
returns g c =
    let os = g.B.Board.asks c.args.self.now.board in
    let both = length-filter_both (λ (o : Open). is_background o.ask) (λ (o : Open). not (is_background o.ask)) (λ _. refl) os in
    ap (λ n. n % 18446744073709551616) (ap (λ (k : Counts). k.background + k.ancestry) c.counts-background.ensures ∙ both)
