-- What holds at every point of one use of one resolver, in the words of its accepted calls.
use Rattle.std.specs.Prelude.{◌≡◌, ℕ, Bool, true, false, cond, not, ◌&&◌, ◌||◌, List, [], ◌∷◌, ◌++◌, is_some, Some, None, Option}
use Rattle.board.specs.Asks.{place}
use Rattle.board.specs.Boards.{opened}
use Rattle.board.specs.Sorting.{lookup, Rises}
use Rattle.board.specs.declared.ask.Ask.TheVariants.{Background, Ancestry}
use Rattle.board.specs.declared.open.Open.{Open}
use Rattle.effects.specs.declared.effect.Kind.{Kind as Ask}
use Rattle.record.specs.declared.kind.Kind.{Kind}
use Rattle.state.specs.Serving.{served}
use Rattle.state.specs.Settled.{settled as holds_settled}
use Rattle.state.specs.States.{held}
use Rattle.state.specs.declared.state.State.{State}
use Rattle.views.specs.declared.Viewable as viewable
use Rattle.history.specs.Calls.{Call, marked, requested, target, passed, by_verdict, settles, needed, serves}
use Rattle.history.specs.Events.{Event, calls, Use, AllAnswer}
use Rattle.history.specs.Uses.{Reached}

module _ {R : Type 0} (viewed : R → ℕ) where
  -- some of the later calls reports a view failed that had passed before that call
  unfoldable pub takes_back : (sort : R → Kind) → List (Call R) → List (Call R) → Bool
  takes_back sort [] before = false
  takes_back sort (c ∷ later) before = by_verdict (λ b x. not b && passed viewed sort (viewed x) (later ++ before)) c || takes_back sort later before

-- the open ask of a place, if there is one
abbrev pub if_asked : Bool → ℕ → Ask → Option ℕ → Option Open
if_asked b v k t = cond b (Some (opened v (Ancestry k) t)) None

abbrev pub if_needed : Bool → ℕ → Option Open
if_needed b v = cond b (Some (opened v Background None)) None

module _ {R : Type 0} {g : viewable.Ghosts R} (sort : R → Kind) (era : R → ℕ) (u : Use R) where
  pub record Promises (h : List (Event R)) (s : State R g) (os : List Open) : Type 0 where
    -- a view is answered settled for a kind exactly when the accepted calls settle it
    pub settled_exactly_when_recorded : (k : Ask) (v : ℕ) → holds_settled u.length k v (held s) ≡ settles g.viewed sort u.length k v (calls h)
    -- and from then on
    pub settled_views_stay : (k : Ask) (v : ℕ) (later earlier : List (Event R)) → h ≡ later ++ earlier → settles g.viewed sort u.length k v (calls earlier) ≡ true → settles g.viewed sort u.length k v (calls h) ≡ true
    -- what is served for a view is what the accepted calls say
    pub served_exactly_as_recorded : (v : ℕ) → served u.length v (held s) ≡ serves g.viewed sort u.length v (calls h)
    -- a served view stays served, unless in between a view that had passed is reported failed
    pub served_views_stay : (v : ℕ) (later earlier : List (Event R)) → h ≡ later ++ earlier → takes_back g.viewed sort (calls later) (calls earlier) ≡ false → is_some (serves g.viewed sort u.length v (calls earlier)) ≡ true → is_some (serves g.viewed sort u.length v (calls h)) ≡ true
    -- the open ancestry asks are the accepted requests whose view is unsettled for their kind, with the target that is left
    pub ancestry_asks_are_unsettled_requests : (k : Ask) (v : ℕ) → lookup (place v (Ancestry k)) os ≡ if_asked (requested k v (calls h) && not (settles g.viewed sort u.length k v (calls h))) v k (target k v (calls h))
    -- the open background asks are none before the first accepted marker, then the needed views
    pub background_asks_are_needed_views : (v : ℕ) → lookup (place v Background) os ≡ if_needed (marked (calls h) && needed g.viewed sort u.length v (calls h)) v
    -- no other ask is open, and none twice
    pub asks_rise : Rises os
    -- every call answered what the rules say, by the calls accepted before it
    pub every_answer_by_the_rules : AllAnswer g.viewed sort era u h

  -- a point of a use: the history leads here, and the promises hold here
  pub record Point (h : List (Event R)) (s : State R g) (os : List Open) : Type 0 where
    pub reached : Reached sort era u h s os
    pub promises : Promises h s os

-- every use, at every point
abbrev pub Law : {R : Type 0} (g : viewable.Ghosts R) (sort : R → Kind) (era : R → ℕ) → Type 0
Law {R} g sort era = (u : Use R) (h : List (Event R)) (s : State R g) (os : List Open) → Reached sort era u h s os → Promises sort era u h s os
