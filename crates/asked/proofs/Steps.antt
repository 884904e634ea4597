-- One row after the other.
use Rattle.std.proofs.Common.{◌≡◌, ℕ, ◌+◌, ◌<◌, true, false, List, [], ◌∷◌, ◌++◌, length, get_or, drop, Some, None, refl, ap, ◌∙◌}
use Rattle.std.proofs.lemmas.Bool.{cond-true, cond-false}
use Rattle.std.proofs.lemmas.List.{drop_more}
use Rattle.board.specs.declared.open.Open.{Open}
use Rattle.asked.specs.declared.row.Asked.{Asked}
use Rattle.asked.specs.Lists.{comes_last, if_last, appending, appended}
use Rattle.asked.specs.Rows.{open_of}

none_stays : (rs : List Asked) → appending None rs ≡ None
unfolding appending
none_stays [] = refl
none_stays (r ∷ rs) = refl

next : (os : List Open) (r : Asked) (rs : List Asked) → appended os (r ∷ rs) ≡ appending (if_last (open_of r) os) rs
unfolding appending
next os r rs = refl

pub ends : (os : List Open) → appended os [] ≡ Some os
unfolding appending
ends os = refl

module _ (os : List Open) (xs : List Asked) (i : ℕ) (d : Asked) (in_rows : i < length xs) where
  first : appended os (drop i xs) ≡ appending (if_last (open_of (get_or xs i d)) os) (drop (i + 1) xs)
  first = ap (appended os) (drop_more xs i d in_rows) ∙ next os (get_or xs i d) (drop (i + 1) xs)

  pub unread : open_of (get_or xs i d) ≡ None → appended os (drop i xs) ≡ None
  unread e = first ∙ ap (λ o. appending (if_last o os) (drop (i + 1) xs)) e ∙ none_stays (drop (i + 1) xs)

  module _ (o : Open) (read : open_of (get_or xs i d) ≡ Some o) where
    then : appended os (drop i xs) ≡ appending (if_last (Some o) os) (drop (i + 1) xs)
    then = first ∙ ap (λ x. appending (if_last x os) (drop (i + 1) xs)) read

    pub not_last : comes_last o os ≡ false → appended os (drop i xs) ≡ None
    not_last e = then ∙ ap (λ x. appending x (drop (i + 1) xs)) (cond-false (comes_last o os) (Some (os ++ o ∷ [])) None e) ∙ none_stays (drop (i + 1) xs)

    pub more : comes_last o os ≡ true → appended os (drop i xs) ≡ appended (os ++ o ∷ []) (drop (i + 1) xs)
    more e = then ∙ ap (λ x. appending x (drop (i + 1) xs)) (cond-true (comes_last o os) (Some (os ++ o ∷ [])) None e)
