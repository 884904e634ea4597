-- What a call leaves: of the state, and of the host's list of effects.
use Rattle.std.specs.Prelude.{◌≡◌, Bool}
use Rattle.effects.specs.declared.listed.Effects.{Effects}
use Rattle.effects.specs.Lists.{Listed}
use Rattle.record.specs.declared.kind.Kind.{Kind}
use Rattle.views.specs.declared.Viewable as viewable
use Rattle.store.specs.Steps.{updated, updated_effects, certified, certified_effects, replayed, replayed_effects}
use Rattle.state.specs.declared.state.State.{State}
use Rattle.state.specs.Laws.{Promises, NotarizationSettlesNoNullification, EveryGapAsked}
use Rattle.state.specs.States.{held, term, epoch_of, fits}

-- what no call changes
pub record Fixed {R : Type 0} {g : viewable.Ghosts R} (before after : State R g) : Type 0 where
  pub term : term after ≡ term before
  pub epoch : epoch_of after ≡ epoch_of before
  pub fits : fits after ≡ fits before

-- a refused call changes nothing
pub record Unchanged {R : Type 0} {g : viewable.Ghosts R} (before after : State R g) (e e' : Effects) : Type 0 where
  pub state : after ≡ before
  pub effects : e' ≡ e

-- evidence was recorded
pub record Evidence {R : Type 0} {g : viewable.Ghosts R} (before after : State R g) (e e' : Effects) (k : Kind) (h : R) : Type 0 where
  pub values : held after ≡ updated (term before) k h (held before)
  pub effects : Listed (updated_effects (term before) k h (held before)) e e'
  pub fixed : Fixed before after
  pub promises : Promises (term before) (held before) (held after) (updated_effects (term before) k h (held before))
  pub notarization_settles_no_nullification : NotarizationSettlesNoNullification (term before) (held before) (held after) k

-- a verdict was recorded
pub record Verdict {R : Type 0} {g : viewable.Ghosts R} (before after : State R g) (e e' : Effects) (pass : Bool) (h : R) : Type 0 where
  pub values : held after ≡ certified (term before) pass h (held before)
  pub effects : Listed (certified_effects (term before) pass h (held before)) e e'
  pub fixed : Fixed before after
  pub promises : Promises (term before) (held before) (held after) (certified_effects (term before) pass h (held before))

-- the end of replay was recorded
pub record Marker {R : Type 0} {g : viewable.Ghosts R} (before after : State R g) (e e' : Effects) : Type 0 where
  pub values : held after ≡ replayed (term before) (held before)
  pub effects : Listed (replayed_effects (term before) (held before)) e e'
  pub fixed : Fixed before after
  pub promises : Promises (term before) (held before) (held after) (replayed_effects (term before) (held before))
  pub every_gap_asked : EveryGapAsked (term before) (held before) (held after) (replayed_effects (term before) (held before))
