-- The open asks of whichever board it is.
use Rattle.std.specs.Prelude.{List}
use Rattle.board.specs.declared.open.Open.{Open}
use Rattle.board.specs.Sorting.{Rises}
use Rattle.own_parts.specs.declared.chosen.Chosen.{Chosen}
use Rattle.own_parts.specs.declared.chosen.Chosen.TheVariants.{One, Other}

abbrev pub asks_in : {A B : Type 0} → (A → List Open) → (B → List Open) → Chosen A B → List Open
asks_in p q (One a) = p a
asks_in p q (Other b) = q b

-- they are in order where those of both boards are
pub rises_in : {A B : Type 0} (p : A → List Open) (q : B → List Open) → ((a : A) → Rises (p a)) → ((b : B) → Rises (q b)) → (c : Chosen A B) → Rises (asks_in p q c)
rises_in p q f g (One a) = f a
rises_in p q f g (Other b) = g b
