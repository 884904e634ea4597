-- What a member has recorded at first.
use Rattle.std.specs.Prelude.{true, [], None}
use Rattle.views.specs.declared.Viewable as viewable
use Rattle.store.specs.Values.{Values}

unfoldable pub fresh : {R : Type 0} {g : viewable.Ghosts R} → Values R g
fresh = record { floor = 0; current = 0; cursor = 0; replaying = true; finalization = None; nullifications = []; pending = []; certified = []; failed = [] }
