-- The words of how far a member has come.
use Rattle.std.specs.Prelude.{List, ℕ, ◌++◌, codes, decimal}
use Rattle.catching_up.specs.declared.standing.Standing.{Standing}

abbrev pub standing_text : Standing → List ℕ
standing_text s = codes "views settled for nullifications " ++ (decimal s.settled ++ (codes " of " ++ (decimal s.current ++ (codes ", above the floor and below " ++ (decimal s.current ++ (codes " without one " ++ decimal s.bare))))))
