-- Messages that are called one after the other.
use Rattle.std.proofs.Common.{◌≡◌, ℕ, Bool, List, [], ◌∷◌, ◌++◌, Ok, Err, Result, append-nil, append_assoc, sym, refl, subst}
use Rattle.board.specs.declared.open.Open.{Open}
use Rattle.record.specs.declared.fault.Fault.{Fault as Misread}
use Rattle.record.specs.declared.kind.Kind.{Kind}
use Rattle.resolver.specs.declared.fault.Fault.{Fault}
use Rattle.queue.specs.declared.message.Message.{Message}
use Rattle.queue.specs.declared.message.Message.TheVariants.{Updated, Certified, Resolve, Replayed}
use Rattle.state.specs.declared.state.State.{State}
use Rattle.views.specs.declared.Viewable as viewable
use Rattle.history.specs.Uses.{Step, use_of}
use Rattle.history.proofs.Points.{next_point}
use Rattle.both_ways.specs.Calling.{event_of, AllCalled, StopsAt}
use Rattle.both_ways.specs.Runs.{Called, CalledInOrder, called_next}

answered_called : {R P : Type 0} (read : P → Result R Misread) (m : Message P) (n : ℕ) (b : Bool) → Called read m (event_of read m n (Ok b))
answered_called read (Updated k v p) n b = (n, refl)
answered_called read (Certified k v d p) n b = (n, refl)
answered_called read (Resolve w v k t) n b = (b, refl)
answered_called read Replayed n b = (n, refl)

module _ {R P : Type 0} {g : viewable.Ghosts R} (read : P → Result R Misread) (sort : R → Kind) (era : R → ℕ) where
  pub none_called_yet : (s : State R g) (os : List Open) → AllCalled read sort era [] s s os os
  none_called_yet s os u before h called past = (h, subst (λ ms. CalledInOrder read ms h) (sym (append-nil before)) called, past)

  module _ (ms : List (Message P)) (m : Message P) (n : ℕ) (s s' s'' : State R g) (os os' os'' : List Open) (so_far : AllCalled read sort era ms s s' os os') where
    -- one more, by what its call says
    pub one_more_called : (b : Bool) → ((approved : R → Bool) → Step sort era (use_of s' approved) (event_of read m n (Ok b)) s' s'' os' os'') → AllCalled read sort era (ms ++ m ∷ []) s s'' os os''
    one_more_called b step u before h called past =
        let i = so_far u before h called past in
        let next = next_point sort era (event_of read m n (Ok b)) s' s'' os' os'' u i.0 i.2 (step u.approved) in
        (event_of read m n (Ok b) ∷ i.0, subst (λ xs. CalledInOrder read xs (event_of read m n (Ok b) ∷ i.0)) (append_assoc before ms (m ∷ [])) (called_next m (event_of read m n (Ok b)) i.1 (answered_called read m n b)), next.reached)

    -- or it is refused
    pub stops_there : (all others : List (Message P)) (f : Fault) → all ≡ ms ++ m ∷ others → ((approved : R → Bool) → Step sort era (use_of s' approved) (event_of read m n (Err f)) s' s'' os' os'') → StopsAt read sort era all f s s'' os os''
    stops_there all others f are step = record {
      first = ms;
      refused = m;
      others = others;
      are = are;
      places = n;
      stops = λ u before h called past. let i = so_far u before h called past in (i.0, i.1, (next_point sort era (event_of read m n (Err f)) s' s'' os' os'' u i.0 i.2 (step u.approved)).reached);
    }
