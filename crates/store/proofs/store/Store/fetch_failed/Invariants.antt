use Rattle.std.proofs.Common.{map, length, take, filter}
use Rattle.effects.specs.Lists.{Added}
use Rattle.store.specs.Values.{values, mark_view}
use Rattle.store.specs.Ready.{length_of, HasRoom}
use Rattle.store.specs.Steps.{is_bare, failed_bare, failed_fetch}
use Rattle.store.proofs.store.Store.fetch_failed.Given as goal

-- the failed views that were looked at are fetched, if they are bare
abbrev pub invariant-loop-mark : goal.invariant-loop-mark
invariant-loop-mark g l =
    HasRoom (length (failed_bare (length_of l.self) (values l.self))) l.initial.effects
    → Added (map failed_fetch (filter (is_bare (length_of l.self) (values l.self)) (take l.mark-index (map mark_view (values l.self).failed)))) l.initial.effects l.effects
