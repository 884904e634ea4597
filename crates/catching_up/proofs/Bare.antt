-- Where nothing is lacking, no view is bare.
use Rattle.std.proofs.Common.{◌≡◌, ℕ, zero, suc, ◌+◌, ◌-◌, ◌<◌, true, refl, arith}
use Rattle.std.proofs.lemmas.Grind.{common_steps}
use Rattle.catching_up.specs.Standings.{unsettled, bare_views}
use Rattle.peer_rounds.specs.Laws.{is_settled}
use Rattle.store.specs.Values.{Values}
use Rattle.views.specs.declared.Viewable as viewable

none_from : {R : Type 0} {g : viewable.Ghosts R} (L : ℕ) (s : Values R g) (low n : ℕ) → ((i : ℕ) → i < n → is_settled L s (low + i) ≡ true) → unsettled L s low n ≡ 0
unfolding unsettled
none_from L s low zero all = refl
none_from L s low (suc n) all =
    let before = none_from L s low n (λ i h. all i (omega arith)) in
    let last = all n (omega arith) in
    grind (arith, common_steps)

-- where each view between the floor and the current view is settled, none of them is bare
pub none_bare : {R : Type 0} {g : viewable.Ghosts R} (L : ℕ) (s : Values R g) → ((v : ℕ) → s.floor < v → v < s.current → is_settled L s v ≡ true) → bare_views L s ≡ 0
none_bare L s all = none_from L s (s.floor + 1) (s.current - s.floor - 1) (λ i h. all (s.floor + 1 + i) (omega arith) (omega arith))
