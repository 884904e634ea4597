-- Asks, and the order in which a board gives them.
use Rattle.std.specs.Prelude.{ℕ, ◌+◌, ◌*◌, Bool, true, false, cond, ◌&&◌, Some, None, Option, nat_le, nat_lt}
use Rattle.effects.specs.declared.effect.Kind.{Kind}
use Rattle.effects.specs.declared.effect.Kind.TheVariants.{Nullification, Notarization}
use Rattle.board.specs.declared.ask.Ask.{Ask}
use Rattle.board.specs.declared.ask.Ask.TheVariants.{Background, Ancestry}
use Rattle.board.specs.declared.ask.Until.{Until}
use Rattle.board.specs.declared.ask.Until.TheVariants.{Floor, Finalization}
use Rattle.board.specs.declared.open.Open.{Open}
use Rattle.board.specs.declared.retire.Retire.{Retire}
use Rattle.board.specs.declared.retire.Retire.TheVariants.{Settled, Finalized, Raised}

abbrev pub kind_of : Ask → Kind
kind_of Background = Nullification
kind_of (Ancestry k) = k

abbrev pub until_of : Ask → Until
until_of Background = Floor
until_of (Ancestry k) = Finalization

abbrev pub rank : Ask → ℕ
rank Background = 0
rank (Ancestry Nullification) = 1
rank (Ancestry Notarization) = 2

-- the place of an ask in the order: by its view, and at one view by its rank
abbrev pub place : ℕ → Ask → ℕ
place v a = 3 * v + rank a

abbrev pub place_of : Open → ℕ
place_of o = place o.view o.ask

abbrev pub is_background : Ask → Bool
is_background Background = true
is_background (Ancestry k) = false

abbrev pub same_kind : Kind → Kind → Bool
same_kind Nullification Nullification = true
same_kind Nullification Notarization = false
same_kind Notarization Nullification = false
same_kind Notarization Notarization = true

-- the one that comes first of two
abbrev pub lower_of : Option Open → Open → Open
lower_of None o = o
lower_of (Some b) o = cond (nat_lt (place_of b) (place_of o)) b o

-- whether an open ask ends
abbrev pub retires : Retire → Open → Bool
retires (Settled k a b) o = same_kind (kind_of o.ask) k && (nat_le a o.view && nat_le o.view b)
retires (Finalized v) o = nat_le o.view v
retires (Raised v) o = is_background o.ask && nat_le o.view v
