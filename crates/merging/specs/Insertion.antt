-- The merges of a vector by insertion: each entry puts its leaf's merge into the merges of the entries before it. Main definitions: put, insert,
-- pairs_of, pairs, Bounded.
use Rattle.std.specs.Prelude.{cond, List, [], ◌∷◌, ◌++◌, ℕ, zero, suc, ◌-◌, ◌*◌, ◌≤◌, ◌<◌, ltb, length, take, drop, get_or}
use Rattle.rules.specs.Vector.{entry}
use Rattle.rules.specs.Building.{Merge}

-- the entries of a vector below n, each within its bound (2 * (0 - 1) is 0)
unfoldable pub Bounded : (ℕ → ℕ) → ℕ → Type 0
Bounded v n = (i : ℕ) → i < n → v i ≤ 2 * (i - 1)

-- leaf i merges with the cluster of merge number d, right after that merge
unfoldable pub put : ℕ → ℕ → List Merge → List Merge
put i d P = take (suc d) P ++ (((get_or P d (0, 0)).0, i) ∷ drop (suc d) P)

-- leaf i with the entry x: at once with the leaf x where x < i, else right after merge number x - i
unfoldable pub insert : ℕ → ℕ → List Merge → List Merge
unfolding put
insert i x P = cond (ltb x i) ((x, i) ∷ P) (put i (x - i) P)

unfoldable pub pairs_of : (ℕ → ℕ) → ℕ → List Merge
unfolding insert
pairs_of v zero = []
pairs_of v (suc zero) = []
pairs_of v (suc (suc m)) = insert (suc m) (v (suc m)) (pairs_of v (suc m))

-- the merges of a vector by insertion
unfoldable pub pairs : List ℕ → List Merge
unfolding pairs_of entry
pairs v = pairs_of (entry v) (length v)
