use Rattle.std.proofs.Common.{◌≡◌, rules, sym, ap, ◌∙◌}
use Rattle.std.proofs.lemmas.List.Filters.{FiltersInPlace-more_no, FiltersInPlace-more_swap}
use Rattle.queue.specs.Messages.{stays_past}
use Rattle.queue.proofs.offering.retain.Goals as goal
use Rattle.queue.proofs.offering.retain.Goals.{then-stays_past, else-stays_past}

pub loop-i-preserved : goal.loop-i-preserved
loop-i-preserved g c =
    let x = c.index-messages-i.result in
    let same : stays_past c.args.view x ≡ c.stays_past.result = ap (stays_past c.args.view) c.index-messages-i.is ∙ sym c.stays_past.ensures in
    elim c.if-stays_past.branch [
      | then-stays_past w ↦ rw (w.messages-is, w.kept-is) (FiltersInPlace-more_swap {x = x} c.loop-i.invariant (search rules) (same ∙ w.if-stays_past.true) c.index-messages-i.is w.swap.ensures.by_index)
      | else-stays_past w ↦ rw (w.messages-is, w.kept-is) (FiltersInPlace-more_no {x = x} c.loop-i.invariant (search rules) (same ∙ w.if-stays_past.false) c.index-messages-i.is)
    ]
