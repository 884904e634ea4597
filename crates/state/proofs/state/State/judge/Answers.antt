use Rattle.std.proofs.Common.{arith, rules}
use Rattle.store.specs.Steps.{certified, certified_effects}
use Rattle.state.specs.States.{held, term}
use Rattle.state.proofs.Evidence.{verdict_tested, verdict_lawful, verdict_promises, passed_room}
use Rattle.state.proofs.Facts.{rises_of, low_of, roomy_after, lawful_after, cleared_room}
use Rattle.state.proofs.state.State.judge.Goals as goal

pub invariant_of-self : goal.invariant_of-self
invariant_of-self g c =
    let s = c.args.self.now in
    let b = c.args.success in
    let h = c.args.held in
    let fine = verdict_tested (term s) b (g.R.Viewable.viewed h) (held s) c.requires.tested in
    let turned = c.certified.ensures.turned (s.roomy c.requires.fit) (low_of s) fine.0 fine.1 in
    record { roomy = roomy_after s c.certified.new.self (certified (term s) b h (held s)) turned; lawful = lawful_after s c.certified.new.self (certified (term s) b h (held s)) turned (verdict_lawful (term s) s.store.term_length.positive (held s) s.lawful (rises_of s) b h fine.0 fine.1) }

pub returns : goal.returns
returns g c =
    let s = c.args.self.now in
    let L = term s in
    let b = c.args.success in
    let h = c.args.held in
    let x0 = c.args.effects.now in
    let x1 = c.clear.new.self in
    let positive = s.store.term_length.positive in
    let fine = verdict_tested L b (g.R.Viewable.viewed h) (held s) c.requires.tested in
    let turned = c.certified.ensures.turned (s.roomy c.requires.fit) (low_of s) fine.0 fine.1 in
    let few = passed_room L positive (held s) s.lawful (rises_of s) h in
    let added = c.certified.ensures.added (s.roomy c.requires.fit) (low_of s) fine.0 fine.1 (cleared_room x0 x1 _ c.clear.ensures.entries c.clear.ensures.list (omega (arith, few)) c.requires.room) in
    record {
      values = turned.is;
      effects = c.clear.ensures.listed_from (certified_effects L b h (held s)) x0 x1 c.certified.new.effects c.clear.ensures.entries c.clear.ensures.list added;
      fixed = search rules;
      promises = rw turned.is (verdict_promises L positive (held s) s.lawful (rises_of s) b h fine.0 fine.1);
    }
