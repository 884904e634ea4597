use Rattle.std.proofs.Common.{arith, rules}
use Rattle.store.specs.Steps.{updated, updated_effects}
use Rattle.state.specs.States.{held, term}
use Rattle.state.proofs.Evidence.{evidence_tested, evidence_lawful, evidence_room, evidence_promises, evidence_settles}
use Rattle.state.proofs.Facts.{rises_of, low_of, finalized_low, roomy_after, lawful_after, cleared_room}
use Rattle.state.proofs.state.State.take.Goals as goal

pub invariant_of-self : goal.invariant_of-self
invariant_of-self g c =
    let s = c.args.self.now in
    let k = c.args.kind in
    let h = c.args.held in
    let fine = evidence_tested (term s) k h (held s) c.requires.tested in
    let turned = c.updated.ensures.turned (s.roomy c.requires.fit) (finalized_low s) (low_of s) fine.low fine.room in
    record { roomy = roomy_after s c.updated.new.self (updated (term s) k h (held s)) turned; lawful = lawful_after s c.updated.new.self (updated (term s) k h (held s)) turned (evidence_lawful (term s) s.store.term_length.positive (held s) s.lawful (rises_of s) k h fine) }

pub returns : goal.returns
returns g c =
    let s = c.args.self.now in
    let L = term s in
    let k = c.args.kind in
    let h = c.args.held in
    let x0 = c.args.effects.now in
    let x1 = c.clear.new.self in
    let positive = s.store.term_length.positive in
    let fine = evidence_tested L k h (held s) c.requires.tested in
    let turned = c.updated.ensures.turned (s.roomy c.requires.fit) (finalized_low s) (low_of s) fine.low fine.room in
    let few = evidence_room L positive (held s) s.lawful (rises_of s) k h fine in
    let added = c.updated.ensures.added (s.roomy c.requires.fit) (finalized_low s) (low_of s) fine.low fine.room (cleared_room x0 x1 _ c.clear.ensures.entries c.clear.ensures.list (omega (arith, few)) c.requires.room) in
    record {
      values = turned.is;
      effects = c.clear.ensures.listed_from (updated_effects L k h (held s)) x0 x1 c.updated.new.effects c.clear.ensures.entries c.clear.ensures.list added;
      fixed = search rules;
      promises = rw turned.is (evidence_promises L positive (held s) s.lawful (rises_of s) k h fine);
      notarization_settles_no_nullification = rw turned.is (evidence_settles L positive (held s) s.lawful (rises_of s) k h fine);
    }
