-- Open asks in numbers.
use Rattle.std.specs.Prelude.{◌≡◌, ℕ, cond, not, ◌&&◌, List, ◌++◌, length, drop, is_some, Some, None, Option, ◌==◌}
use Rattle.board.specs.Asks.{rank}
use Rattle.board.specs.Boards.{opened}
use Rattle.board.specs.declared.ask.Ask.{Ask}
use Rattle.board.specs.declared.ask.Ask.TheVariants.{Background, Ancestry}
use Rattle.board.specs.declared.open.Open.{Open}
use Rattle.effects.specs.declared.effect.Kind.TheVariants.{Nullification, Notarization}
use Rattle.asked.specs.declared.row.Asked.{Asked}

abbrev pub ask_of : ℕ → Option Ask
ask_of r = cond (r == 0) (Some Background) (cond (r == 1) (Some (Ancestry Nullification)) (cond (r == 2) (Some (Ancestry Notarization)) None))

-- a background ask has no target
abbrev pub untargeted : Ask → Option ℕ → Type 0
untargeted Background t = t ≡ None
untargeted (Ancestry k) t = Unit {0}

abbrev pub Fitting : Open → Type 0
Fitting o = untargeted o.ask o.target

abbrev pub target_of : Asked → Option (Option ℕ)
target_of a = cond (a.targeted == 0) (Some None) (cond (a.targeted == 1 && not (a.rank == 0)) (Some (Some a.target)) None)

abbrev pub with_target : ℕ → Ask → Option (Option ℕ) → Option Open
with_target v a None = None
with_target v a (Some t) = Some (opened v a t)

abbrev pub with_ask : Option Ask → Asked → Option Open
with_ask None a = None
with_ask (Some k) a = with_target a.view k (target_of a)

-- the open ask that numbers say, if they do
abbrev pub open_of : Asked → Option Open
open_of a = with_ask (ask_of a.rank) a

abbrev pub target_number : Option ℕ → ℕ
target_number None = 0
target_number (Some t) = t

abbrev pub row_of : Open → Asked
row_of o = record { view = o.view; rank = rank o.ask; targeted = cond (is_some o.target) 1 0; target = target_number o.target }

-- rows in front of places
abbrev pub over : {X : Type 0} → List X → List X → List X
over rs places = rs ++ drop (length rs) places
