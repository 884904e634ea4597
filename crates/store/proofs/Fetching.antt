-- The failed views that are fetched, one after the other.
use Rattle.std.proofs.Common.{◌≡◌, ℕ, ◌+◌, ◌<◌, ◌≤◌, Bool, List, ◌++◌, map, length, get_or, take, drop, filter, ap, arith}
use Rattle.std.proofs.lemmas.List.Elements.{filter-append, filter_more}
use Rattle.std.proofs.lemmas.List.{length-append, length-map, map-append, take-append-drop}
use Rattle.std.proofs.lemmas.Grind.{common_steps}
use Rattle.store.specs.Steps.{if_due, failed_fetch}

-- what is kept of the first is no more than what is kept
front_few : (p : ℕ → Bool) (xs : List ℕ) (i : ℕ) → length (filter p (take i xs)) ≤ length (filter p xs)
front_few p xs i = omega (arith, ap (λ l. length (filter p l)) (take-append-drop i xs), ap length (filter-append p (take i xs) (drop i xs)), length-append (filter p (take i xs)) (filter p (drop i xs)))

-- one more view was looked at
pub one_more : (p : ℕ → Bool) (xs : List ℕ) (i v : ℕ) → i < length xs → v ≡ get_or xs i 0 → map failed_fetch (filter p (take (i + 1) xs)) ≡ map failed_fetch (filter p (take i xs)) ++ if_due (p v) (failed_fetch v)
one_more p xs i v h is = let e = filter_more p xs i 0 h in grind (arith, common_steps, map-append)

-- and there is room for it where there is room for all
pub one_fits : (p : ℕ → Bool) (xs : List ℕ) (i v : ℕ) → i < length xs → v ≡ get_or xs i 0 → length (map failed_fetch (filter p (take i xs))) + length (if_due (p v) (failed_fetch v)) ≤ length (filter p xs)
one_fits p xs i v h is = search (arith, length-map, length-append, front_few p xs (i + 1), ap length (one_more p xs i v h is))
