-- The open asks of one view, as a row.
use Rattle.std.specs.Prelude.{◌≡◌, ℕ, Bool, true, false, cond, not, ◌&&◌, List, [], ◌∷◌, ◌++◌, is_some, is_none, Some, None, Option, nat_le}
use Rattle.effects.specs.declared.effect.Kind.{Kind}
use Rattle.effects.specs.declared.effect.Kind.TheVariants.{Nullification, Notarization}
use Rattle.board.specs.Asks.{retires}
use Rattle.board.specs.Boards.{opened}
use Rattle.board.specs.declared.ask.Ask.{Ask}
use Rattle.board.specs.declared.ask.Ask.TheVariants.{Background, Ancestry}
use Rattle.board.specs.declared.open.Open.{Open}
use Rattle.board.specs.declared.retire.Retire.{Retire}
use Rattle.board.specs.declared.retire.Retire.TheVariants.{Settled, Finalized, Raised}
use Rattle.row_board.specs.declared.row.Row.{Row}

abbrev pub fresh : ℕ → Row
fresh v = record { view = v; background = false; nullification = None; notarization = None }

abbrev pub has : Ask → Row → Bool
has Background r = r.background
has (Ancestry Nullification) r = is_some r.nullification
has (Ancestry Notarization) r = is_some r.notarization

abbrev pub is_bare : Row → Bool
is_bare r = not r.background && (is_none r.nullification && is_none r.notarization)

abbrev pub with_ask : Ask → Option ℕ → Row → Row
with_ask Background t r = record { view = r.view; background = true; nullification = r.nullification; notarization = r.notarization }
with_ask (Ancestry Nullification) t r = record { view = r.view; background = r.background; nullification = Some t; notarization = r.notarization }
with_ask (Ancestry Notarization) t r = record { view = r.view; background = r.background; nullification = r.nullification; notarization = Some t }

-- a background ask has no target
abbrev pub Fitting : Ask → Option ℕ → Type 0
Fitting Background t = t ≡ None
Fitting (Ancestry k) t = Unit {0}

-- what stays of an ancestry ask
abbrev pub kept_target : Retire → ℕ → Kind → Option (Option ℕ) → Option (Option ℕ)
kept_target q v k None = None
kept_target q v k (Some t) = cond (retires q (opened v (Ancestry k) t)) None (Some t)

-- whether asks at a view may end
abbrev pub reached : Retire → ℕ → Bool
reached (Settled k a b) v = nat_le a v && nat_le v b
reached (Finalized w) v = nat_le v w
reached (Raised w) v = nat_le v w

abbrev pub closed : Retire → Row → Row
closed q r = record { view = r.view; background = r.background && not (retires q (opened r.view Background None)); nullification = kept_target q r.view Nullification r.nullification; notarization = kept_target q r.view Notarization r.notarization }

-- the ask of each rank, if it is open
abbrev pub ancestry_of : ℕ → Kind → Option (Option ℕ) → List Open
ancestry_of v k None = []
ancestry_of v k (Some t) = opened v (Ancestry k) t ∷ []

abbrev pub part : Ask → Row → List Open
part Background r = cond r.background (opened r.view Background None ∷ []) []
part (Ancestry Nullification) r = ancestry_of r.view Nullification r.nullification
part (Ancestry Notarization) r = ancestry_of r.view Notarization r.notarization

-- all of them, in order
unfoldable pub asks_in : Row → List Open
asks_in r = part Background r ++ (part (Ancestry Nullification) r ++ part (Ancestry Notarization) r)
