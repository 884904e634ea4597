use Rattle.std.proofs.Common.{◌≡◌, Bool, true, false, Some, None, get_or, ap, sym, ◌∙◌, rules}
use Rattle.std.proofs.lemmas.Bool.{cond-true, cond-false}
use Rattle.std.specs.Prelude.{nat_le}
use Rattle.board.specs.Asks.{place, place_of, lower_of}
use Rattle.board.specs.Sorting.{sorted, distinct}
use Rattle.board.specs.declared.ask.Ask.TheVariants.{Background}
use Rattle.board.specs.declared.open.Open.{Open}
use Rattle.list_board.proofs.Entries.{first_more}
use Rattle.list_board.proofs.asking.ListBoardBoard.first_from.Goals as goal
use Rattle.list_board.proofs.asking.ListBoardBoard.first_from.Goals.{then-not-is_before, else-not-is_before}

pub loop-asked-init : goal.loop-asked-init
unfolding sorted
loop-asked-init c = search rules

pub loop-asked-preserved : goal.loop-asked-preserved
loop-asked-preserved c =
    let os = c.as_slice-asked-items.result.now in
    let i = c.loop-asked.asked-index in
    let k = place c.args.view c.args.ask in
    let d : Open = record { view = 0; ask = Background; target = None } in
    let p : Open → Bool = λ o. nat_le k (place_of o) in
    let apart : distinct os ≡ true = ap distinct c.as_slice-asked-items.ensures ∙ c.args.self.now.apart in
    let more = first_more p os i d apart c.loop-asked-test.true in
    elim c.if-not-is_before.branch [
      | then-not-is_before w ↦
          let passes : p (get_or os i d) ≡ true = search rules in
          w.best-is ∙ (ap Some (w.lower.ensures ∙ ap (λ b. lower_of b (get_or os i d)) c.loop-asked.invariant) ∙ (sym (cond-true (p (get_or os i d)) _ _ passes) ∙ sym more))
      | else-not-is_before w ↦
          let fails : p (get_or os i d) ≡ false = search rules in
          w.best-is ∙ (c.loop-asked.invariant ∙ (sym (cond-false (p (get_or os i d)) _ _ fails) ∙ sym more))
    ]
