use Rattle.std.proofs.Common.{arith}
use Rattle.std.proofs.lemmas.List.{length-take-le, length-set}
use Rattle.list_board.specs.Lists.{entries}
use Rattle.list_board.specs.declared.list.ListBoard.{ListBoard}
use Rattle.list_board.proofs.Entries.{Kept, set_list}
use Rattle.list_board.proofs.list.ListBoard.replace.Goals as goal

kept_by : (s : ListBoard) → Kept (entries s)
kept_by s = record { apart = s.apart; background_few = s.background_few; ancestry_few = s.ancestry_few }

pub invariant_of-self : goal.invariant_of-self
invariant_of-self c =
    let s = c.args.self.now in
    let at = c.args.at in
    let p = set_list c.args.asked s.list.now s.len at (kept_by s) c.requires.within (omega (arith, c.requires.within, length-take-le s.len s.list.now s.fits)) c.requires.same in
    record {
      fits = omega (arith, s.fits, length-set s.list.now at c.args.asked);
      enough = omega (arith, s.enough, length-set s.list.now at c.args.asked);
      apart = p.0.apart;
      background_few = p.0.background_few;
      ancestry_few = p.0.ancestry_few;
    }

pub returns : goal.returns
returns c =
    let s = c.args.self.now in
    (set_list c.args.asked s.list.now s.len c.args.at (kept_by s) c.requires.within (omega (arith, c.requires.within, length-take-le s.len s.list.now s.fits)) c.requires.same).1
