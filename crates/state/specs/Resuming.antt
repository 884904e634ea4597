-- What a state can be made over.
use Rattle.views.specs.declared.Viewable as viewable
use Rattle.store.specs.declared.store.Store.{Store}
use Rattle.store.specs.Ready.{length_of, Roomy}
use Rattle.store.specs.Values.{values}
use Rattle.lawful.specs.Lawful.{Lawful}

-- places enough, and what calls may leave
pub record Resumable {R : Type 0} {g : viewable.Ghosts R} (s : Store R g) : Type 0 where
  pub roomy : Roomy s
  pub lawful : Lawful (length_of s) (values s)
