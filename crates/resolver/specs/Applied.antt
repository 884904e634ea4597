-- What effects make of the open asks: what ends goes first, then the fetches.
use Rattle.std.specs.Prelude.{List, [], ◌∷◌}
use Rattle.board.specs.Boards.{backfilled, retired}
use Rattle.board.specs.declared.open.Open.{Open}
use Rattle.board.specs.declared.retire.Retire.TheVariants as retire
use Rattle.effects.specs.declared.effect.Effect.{Effect}
use Rattle.effects.specs.declared.effect.Effect.TheVariants.{Fetch, Settled, Finalized, Raised}

abbrev pub ended : Effect → List Open → List Open
ended (Fetch v c r) os = os
ended (Settled k a b) os = retired (retire.Settled k a b) os
ended (Finalized v) os = retired (retire.Finalized v) os
ended (Raised v) os = retired (retire.Raised v) os

abbrev pub begun : Effect → List Open → List Open
begun (Fetch v c r) os = backfilled v os
begun (Settled k a b) os = os
begun (Finalized v) os = os
begun (Raised v) os = os

-- one after the other
unfoldable pub in_turn : (Effect → List Open → List Open) → List Effect → List Open → List Open
in_turn f [] os = os
in_turn f (e ∷ es) os = in_turn f es (f e os)

abbrev pub applied : List Effect → List Open → List Open
applied es os = in_turn begun es (in_turn ended es os)
