-- What holds of the values of every state. Terms have L views.
use Rattle.std.specs.Prelude.{◌≡◌, ℕ, ◌+◌, ◌^◌, ◌<◌, ◌≤◌, true, false, length}
use Rattle.planning.specs.Gaps.{landing}
use Rattle.terms.specs.Terms.{end}
use Rattle.views.specs.declared.Viewable as viewable
use Rattle.store.specs.Values.{Values, finalized, is_nullified, is_pending, is_certified, has_failed, gaps_of}

-- no table too long
pub record Few {R : Type 0} {g : viewable.Ghosts R} (s : Values R g) : Type 0 where
  pub nullifications : length s.nullifications ≤ 128
  pub pending : length s.pending ≤ 128
  pub certified : length s.certified ≤ 128
  pub failed : length s.failed ≤ 128

-- no floor below the finalized view, no row that finalization has ruled out, no table too long, no view too high
pub record Sound {R : Type 0} {g : viewable.Ghosts R} (L : ℕ) (s : Values R g) : Type 0 where
  pub nullifications_few : length s.nullifications ≤ 128
  pub pending_few : length s.pending ≤ 128
  pub certified_few : length s.certified ≤ 128
  pub failed_few : length s.failed ≤ 128
  pub floor_finalized : finalized s ≤ s.floor
  pub floor_low : s.floor ≤ 2 ^ 62
  pub current_low : s.current ≤ 2 ^ 62
  pub nullifications_open : (u : ℕ) → is_nullified u s ≡ true → finalized s < end L u
  pub pending_above : (u : ℕ) → is_pending u s ≡ true → finalized s < u
  pub certified_above : (u : ℕ) → is_certified u s ≡ true → finalized s < u
  pub failed_above : (u : ℕ) → has_failed u s ≡ true → finalized s < u

-- in replay nothing is planned; after it planning has come to each gap, and there are no more than may be
pub record Planned {R : Type 0} {g : viewable.Ghosts R} (L : ℕ) (s : Values R g) : Type 0 where
  pub cursor_first : s.replaying ≡ true → s.cursor ≡ 0
  pub cursor_lands : s.replaying ≡ false → s.cursor ≡ landing L (s.floor + 1) s.current
  pub gaps_few : s.replaying ≡ false → length (gaps_of L s) ≤ 128

pub record Lawful {R : Type 0} {g : viewable.Ghosts R} (L : ℕ) (s : Values R g) : Type 0 where
  pub sound : Sound L s
  pub planned : Planned L s
