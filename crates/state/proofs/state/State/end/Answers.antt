use Rattle.std.proofs.Common.{sym, subst, rules}
use Rattle.store.specs.Steps.{replayed, replayed_effects}
use Rattle.state.specs.Laws.{EveryGapAsked}
use Rattle.state.specs.States.{held, term}
use Rattle.state.proofs.Evidence.{marker_tested, marker_lawful, marker_room, marker_promises, marker_every}
use Rattle.state.proofs.Facts.{rises_of, low_of, roomy_after, lawful_after, cleared_room}
use Rattle.state.proofs.state.State.end.Goals as goal

pub invariant_of-self : goal.invariant_of-self
invariant_of-self g c =
    let s = c.args.self.now in
    let turned = c.replayed.ensures.turned (low_of s) in
    record { roomy = roomy_after s c.replayed.new.self (replayed (term s) (held s)) turned; lawful = lawful_after s c.replayed.new.self (replayed (term s) (held s)) turned (marker_lawful (term s) s.store.term_length.positive (held s) s.lawful (rises_of s) (marker_tested (term s) (held s) c.requires.tested)) }

pub returns : goal.returns
returns g c =
    let s = c.args.self.now in
    let L = term s in
    let x0 = c.args.effects.now in
    let x1 = c.clear.new.self in
    let positive = s.store.term_length.positive in
    let few = marker_tested L (held s) c.requires.tested in
    let turned = c.replayed.ensures.turned (low_of s) in
    let added = c.replayed.ensures.added (low_of s) (cleared_room x0 x1 _ c.clear.ensures.entries c.clear.ensures.list (marker_room L positive (held s) s.lawful (rises_of s) few) c.requires.room) in
    record {
      values = turned.is;
      effects = c.clear.ensures.listed_from (replayed_effects L (held s)) x0 x1 c.replayed.new.effects c.clear.ensures.entries c.clear.ensures.list added;
      fixed = search rules;
      promises = rw turned.is (marker_promises L positive (held s) s.lawful (rises_of s) few);
      every_gap_asked = subst (λ t. EveryGapAsked L (held s) t (replayed_effects L (held s))) (sym turned.is) (marker_every L positive (held s) s.lawful (rises_of s) few);
    }
