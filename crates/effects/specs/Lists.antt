-- The effects in a host's list: its first places. The places past them stay as they are.
use Rattle.std.specs.Prelude.{◌≡◌, ℕ, ◌+◌, ◌≤◌, List, [], ◌++◌, length, take, drop}
use Rattle.effects.specs.declared.effect.Effect.{Effect}
use Rattle.effects.specs.declared.listed.Effects.{Effects}

abbrev pub entries : Effects → List Effect
entries e = take e.len e.list.now

abbrev pub places : Effects → ℕ
places e = length e.list.now

-- the list from a place on
abbrev pub from : ℕ → Effects → List Effect
from n e = drop n e.list.now

-- these effects came after what stood in the list, and nothing past them changed
pub record Added (es : List Effect) (before after : Effects) : Type 0 where
  pub stand : entries after ≡ entries before ++ es
  pub rest : from (length (entries after)) after ≡ from (length (entries after)) before
  pub room : places after ≡ places before

abbrev pub NothingAdded : Type 0
NothingAdded = (e : Effects) → Added [] e e

-- some came, and then others
abbrev pub AddedBoth : Type 0
AddedBoth = (xs ys : List Effect) (a b c : Effects) → Added xs a b → Added ys b c → Added (xs ++ ys) a c

-- as many of these effects as there was room for came after what stood in the list, and nothing past them changed
pub record Filled (es : List Effect) (before after : Effects) : Type 0 where
  pub stand : entries after ≡ take (places before) (entries before ++ es)
  pub rest : from (length (entries after)) after ≡ from (length (entries after)) before
  pub room : places after ≡ places before

abbrev pub NothingFilled : Type 0
NothingFilled = (e : Effects) → Filled [] e e

-- some came, and then others
abbrev pub FilledBoth : Type 0
FilledBoth = (xs ys : List Effect) (a b c : Effects) → Filled xs a b → Filled ys b c → Filled (xs ++ ys) a c

-- where there is room for all, all came
abbrev pub AllFilled : Type 0
AllFilled = (es : List Effect) (before after : Effects) → length (entries before) + length es ≤ places before → Filled es before after → Added es before after

-- these effects stand in the list from its first place on, and nothing past them changed
pub record Listed (es : List Effect) (before after : Effects) : Type 0 where
  pub stand : entries after ≡ es
  pub rest : from (length es) after ≡ from (length es) before
  pub room : places after ≡ places before

-- what is added to a list that was cleared stands in it from its first place on
abbrev pub ListedFrom : Type 0
ListedFrom = (es : List Effect) (before cleared after : Effects) → entries cleared ≡ [] → cleared.list.now ≡ before.list.now → Added es cleared after → Listed es before after
