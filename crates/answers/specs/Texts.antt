-- The words of the parts of an answer.
use Rattle.std.specs.Prelude.{ℕ, Bool, true, false, List, [], ◌∷◌, ◌++◌, flat_map, codes, decimal}
use Rattle.board.specs.Shown.{open_text}
use Rattle.board.specs.declared.open.Open.{Open}
use Rattle.listings.specs.Texts.{hex_text, views_text}
use Rattle.record.specs.Certificates.{kind_in, proposal_in, written}
use Rattle.record.specs.Kinds.{name_of}
use Rattle.record.specs.declared.certificate.Certificate.{Certificate}
use Rattle.store.specs.Values.{Values, mark_view, finalized}
use Rattle.views.specs.declared.Viewable as viewable

abbrev pub view_in : Certificate → ℕ
view_in c = (proposal_in c).round.view

abbrev pub yes_text : Bool → List ℕ
yes_text true = codes "yes"
yes_text false = codes "no"

module _ {R : Type 0} {g : viewable.Ghosts R} where
  abbrev pub numbers_text : Values R g → List ℕ
  numbers_text s = codes "floor " ++ (decimal s.floor ++ (codes " current " ++ (decimal s.current ++ (codes " cursor " ++ (decimal s.cursor ++ (codes " finalized " ++ (decimal (finalized s) ++ (codes " replay " ++ yes_text s.replaying))))))))

  abbrev pub tables_text : Values R g → List ℕ
  tables_text s = codes " nullifications " ++ (views_text g.viewed s.nullifications ++ (codes " pending " ++ (views_text mark_view s.pending ++ (codes " certified " ++ (views_text g.viewed s.certified ++ (codes " failed " ++ views_text mark_view s.failed))))))

-- the kind, the view and the bytes
abbrev pub record_text : Certificate → List ℕ
record_text c = name_of (kind_in c) ++ (codes " " ++ (decimal (view_in c) ++ (codes " " ++ hex_text (written c))))

abbrev pub taken_text : Bool → List ℕ
taken_text true = codes " taken"
taken_text false = codes " not taken"

abbrev pub one_more : Open → List ℕ
one_more o = codes ", " ++ open_text o

-- open asks, a comma and a space between each two
abbrev pub asks_text : List Open → List ℕ
asks_text [] = codes "none"
asks_text (o ∷ os) = open_text o ++ flat_map one_more os
