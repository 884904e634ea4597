-- What a call promises of what it was told, in the subject's words. Terms have L views.
use Rattle.std.specs.Prelude.{◌≡◌, ℕ, ◌+◌, ◌<◌, ◌≤◌, Bool, true, false, ◌||◌, ◌⊎◌, List, [], ◌∷◌, length, Some, Decides, ◌==◌}
use Rattle.effects.specs.declared.effect.Effect.{Effect}
use Rattle.effects.specs.declared.effect.Effect.TheVariants.{Fetch, Settled, Finalized, Raised}
use Rattle.effects.specs.declared.effect.FetchReason.TheVariants.{MissingNullification, CertificationFailed}
use Rattle.effects.specs.declared.effect.Kind.{Kind as Ask}
use Rattle.effects.specs.declared.effect.Kind.TheVariants.{Nullification}
use Rattle.planning.specs.Gaps.{among}
use Rattle.record.specs.declared.kind.Kind.{Kind}
use Rattle.record.specs.declared.kind.Kind.TheVariants.{Notarization}
use Rattle.table.specs.Rows.{lookup}
use Rattle.terms.specs.Terms.{end, is_start}
use Rattle.views.specs.declared.Viewable as viewable
use Rattle.store.specs.Values.{Values, finalized, is_covered, gaps_of}
use Rattle.state.specs.Settled.{settled}

-- whether an effect fetches a gap at a view
abbrev pub fetches_gap : ℕ → Effect → Bool
fetches_gap v (Fetch u c MissingNullification) = u == v
fetches_gap v (Fetch u c CertificationFailed) = false
fetches_gap v (Settled k a b) = false
fetches_gap v (Finalized u) = false
fetches_gap v (Raised u) = false

abbrev pub fetched : ℕ → List Effect → Bool
fetched v [] = false
fetched v (e ∷ es) = fetches_gap v e || fetched v es

module _ {R : Type 0} {g : viewable.Ghosts R} (L : ℕ) where
  abbrev pub is_gap : ℕ → Values R g → Bool
  is_gap v s = among v (gaps_of L s)

  module _ (before after : Values R g) where
    -- a gap that stood before and still stands: above the floor, and uncovered
    pub record StillOpen (v : ℕ) : Type 0 where
      pub gap : is_gap v before ≡ true
      pub above : after.floor < v
      pub bare : is_covered L after v ≡ false

    -- the gaps are exactly those that this call fetches and those that stood before and still stand
    abbrev pub NoGapUnasked : List Effect → Type 0
    NoGapUnasked es = before.replaying ≡ false → (v : ℕ) → Decides (is_gap v after) ((fetched v es ≡ true) ⊎ StillOpen v)

    -- the end of replay fetches exactly the gaps
    abbrev pub EveryGapAsked : List Effect → Type 0
    EveryGapAsked es = before.replaying ≡ true → (v : ℕ) → fetched v es ≡ is_gap v after

    -- there are no more gaps than before, unless the highest view rose
    abbrev pub GapsDoNotGrow : Type 0
    GapsDoNotGrow = after.current ≡ before.current → length (gaps_of L after) ≤ length (gaps_of L before)

    -- a floor that rises into the middle of a term has the rest of that term asked for
    abbrev pub TailAsked : List Effect → Type 0
    TailAsked es = before.replaying ≡ false → before.floor < after.floor → is_start L (after.floor + 1) ≡ false → is_gap (after.floor + 1) after ≡ true → fetched (after.floor + 1) es ≡ true

    -- a nullification is dropped only when its term ends at or below the finalized view
    abbrev pub DroppedOnlyWhenFinalized : Type 0
    DroppedOnlyWhenFinalized = (u : ℕ) (h : R) → lookup g.viewed u before.nullifications ≡ Some h → (lookup g.viewed u after.nullifications ≡ Some h) ⊎ (end L u ≤ finalized after)

    -- what is settled stays settled
    abbrev pub SettledOnlyGrows : Type 0
    SettledOnlyGrows = (k : Ask) (v : ℕ) → settled L k v before ≡ true → settled L k v after ≡ true

    -- no ask for a nullification is settled that was not
    abbrev pub NoNullificationSettled : Type 0
    NoNullificationSettled = (v : ℕ) → settled L Nullification v after ≡ settled L Nullification v before

    -- what every change keeps
    pub record Promises (es : List Effect) : Type 0 where
      pub no_gap_unasked : NoGapUnasked es
      pub gaps_do_not_grow : GapsDoNotGrow
      pub tail_asked : TailAsked es
      pub dropped_only_when_finalized : DroppedOnlyWhenFinalized
      pub settled_only_grows : SettledOnlyGrows

    -- a notarization never settles a nullification
    abbrev pub NotarizationSettlesNoNullification : Kind → Type 0
    NotarizationSettlesNoNullification k = k ≡ Notarization → NoNullificationSettled
