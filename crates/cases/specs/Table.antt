-- The twelve cases. Terms have four views.
use Rattle.std.specs.Prelude.{ℕ, true, false, List, [], ◌∷◌, Some, None, Option}
use Rattle.effects.specs.declared.effect.Effect.{Effect}
use Rattle.effects.specs.declared.effect.Effect.TheVariants.{Fetch, Settled, Finalized, Raised}
use Rattle.effects.specs.declared.effect.FetchReason.TheVariants.{MissingNullification}
use Rattle.effects.specs.declared.effect.Kind.TheVariants as ask
use Rattle.history.specs.Calls.{Call, evidence, verdict, marker}
use Rattle.record.specs.declared.certificate.Certificate.{Certificate}
use Rattle.cases.specs.Records.{notarization, nullification, finalization}

abbrev pub four : ℕ
four = 4

-- the calls of one run of one resolver, in the order in which they are made
abbrev pub run : List (Call Certificate)
run =
    marker
    ∷ evidence (nullification 10)
    ∷ evidence (finalization 6)
    ∷ evidence (nullification 7)
    ∷ verdict false (notarization 14)
    ∷ verdict true (notarization 9)
    ∷ []

pub data Case : Type 0 where
  -- the term of a view: where it starts and ends, and where the next one starts
  term : (view start end next : ℕ) → Case
  -- a nullification at a view covers these views, and none of those
  covers : (nullified : ℕ) (these those : List ℕ) → Case
  -- the last of the run's first calls, so many, has these effects in this order, and leaves background asks at these
  -- views and no other ask
  effects : (calls : ℕ) (list : List Effect) (views : List ℕ) → Case
  -- so many calls leave background asks at these views and no other ask
  asks : (calls : ℕ) (views : List ℕ) → Case
  -- after so many calls this record is served for a view
  serves : (calls view : ℕ) (found : Option Certificate) → Case

abbrev pub cases : List Case
cases =
    -- 1: view 0 is a term of its own
    term 0 0 0 1
    -- 2: view 4 ends the term from 1 to 4
    ∷ term 4 1 4 5
    -- 3: view 5 starts the term from 5 to 8
    ∷ term 5 5 8 9
    -- 4: a nullification at 6 covers the rest of its term, and neither 5 nor 9
    ∷ covers 6 (6 ∷ 7 ∷ 8 ∷ []) (5 ∷ 9 ∷ [])
    -- 5: the marker, then nullification 10: each term start below it is asked for, 9 too
    ∷ effects 2 (Settled ask.Nullification 10 12 ∷ Fetch 1 10 MissingNullification ∷ Fetch 5 10 MissingNullification ∷ Fetch 9 10 MissingNullification ∷ []) (1 ∷ 5 ∷ 9 ∷ [])
    -- 6: then finalization 6: the floor rises into the middle of a term, and the view after it is asked for
    ∷ effects 3 (Finalized 6 ∷ Raised 6 ∷ Fetch 7 6 MissingNullification ∷ Fetch 9 6 MissingNullification ∷ []) (7 ∷ 9 ∷ [])
    -- 7: then nullification 7: the ask at 7 ends
    ∷ asks 4 (9 ∷ [])
    -- 8: then a failing verdict at 14: a nullification is asked for there
    ∷ asks 5 (9 ∷ 14 ∷ [])
    -- 9: then a passing verdict at 9: the floor rises to 9, and the ask there ends
    ∷ asks 6 (14 ∷ [])
    -- 10: view 8 is served the nullification that covers it
    ∷ serves 6 8 (Some (nullification 7))
    -- 11: view 5 is served the finalization above it
    ∷ serves 6 5 (Some (finalization 6))
    -- 12: view 13 is served nothing
    ∷ serves 6 13 None
    ∷ []
