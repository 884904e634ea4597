use Rattle.std.proofs.Common.{ap, ◌∙◌, is_some}
use Rattle.list_board.specs.Lists.{entries}
use Rattle.board.specs.Asks.{place}
use Rattle.list_board.proofs.Entries.{found_by_position}
use Rattle.list_board.proofs.list.ListBoard.is_open.Goals as goal

pub returns : goal.returns
returns c = c.is_some.ensures ∙ (ap is_some c.find.ensures ∙ found_by_position (place c.args.view c.args.ask) (entries c.args.self.now))
