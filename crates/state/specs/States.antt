-- The values of a state.
use Rattle.std.specs.Prelude.{ℕ, Bool, ◌&&◌, length, nat_le, nat_lt}
use Rattle.views.specs.declared.Viewable as viewable
use Rattle.store.specs.declared.store.Memory.{Memory}
use Rattle.store.specs.Values.{Values, values}
use Rattle.store.specs.Ready.{length_of}
use Rattle.state.specs.declared.state.State.{State}

module _ {R : Type 0} {g : viewable.Ghosts R} where
  abbrev pub held : State R g → Values R g
  held s = values s.store

  -- how many views a term has
  abbrev pub term : State R g → ℕ
  term s = length_of s.store

  abbrev pub epoch_of : State R g → ℕ
  epoch_of s = s.store.epoch

  -- whether the host lent enough places
  abbrev pub fits : State R g → Bool
  fits s = s.fit

-- whether a host lends enough places
abbrev pub enough : {R : Type 0} → Memory R → Bool
enough m = nat_lt 0 (length m.finalization.now) && (nat_le 128 (length m.nullifications.now) && (nat_le 128 (length m.pending_notarizations.now) && (nat_le 128 (length m.certified_notarizations.now) && nat_le 128 (length m.uncertifiable_notarizations.now))))
