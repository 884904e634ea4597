use Rattle.std.proofs.Common.{arith, not, subst, sym, ap, ◌∙◌}
use Rattle.board.specs.Asks.{retires}
use Rattle.board.specs.Sorting.{sorted}
use Rattle.board.proofs.Laws.{filtered}
use Rattle.list_board.specs.Lists.{entries}
use Rattle.list_board.specs.declared.list.ListBoard.{ListBoard}
use Rattle.list_board.proofs.Entries.{Kept, kept_filter}
use Rattle.list_board.proofs.asking.ListBoardBoard.retire.Goals as goal

kept_by : (s : ListBoard) → Kept (entries s)
kept_by s = record { apart = s.apart; background_few = s.background_few; ancestry_few = s.ancestry_few }

pub invariant_of-self-2 : goal.invariant_of-self-2
invariant_of-self-2 c =
    let s = c.args.self.now in
    let k = subst Kept (sym c.keep-self.ensures.kept) (kept_filter (λ o. not (retires c.args.retire o)) (entries s) (kept_by s)) in
    record {
      fits = omega (arith, c.keep-self.ensures.fewer, s.fits);
      enough = omega (arith, s.enough);
      apart = k.apart;
      background_few = k.background_few;
      ancestry_few = k.ancestry_few;
    }

pub returns : goal.returns
returns c = ap sorted c.keep-self.ensures.kept ∙ (filtered (λ o. not (retires c.args.retire o)) (entries c.args.self.now) c.args.self.now.apart).0
