-- The order of a tree's merges by chains: pairs merge by the falling least larger name under them, and those of one such name from the bottom up.
-- Main definitions: lowest, chain, falling, merges_of, Smaller, In, Apart.
use Rattle.std.specs.Prelude.{◌≡◌, ◌⊎◌, true, cond, List, [], ◌∷◌, ◌++◌, ℕ, zero, suc, ◌<◌, min, max, eqb}
use Rattle.rules.specs.Building.{Merge}
use Rattle.rules.specs.Tree.{Tree, leaf, node, has, least}

-- the least larger name of a tree's pairs, and m where it has no pair
unfoldable pub lowest : ℕ → Tree → ℕ
lowest m (leaf x) = m
lowest m (node l r) = min (max (least l) (least r)) (min (lowest m l) (lowest m r))

-- the larger names of the pairs with the lowest name k under them, each behind those under it
unfoldable pub chain : ℕ → Tree → ℕ → List ℕ
unfolding lowest
chain m (leaf x) k = []
chain m (node l r) k = (chain m l k ++ chain m r k) ++ cond (eqb k (lowest m (node l r))) (max (least l) (least r) ∷ []) []

-- c (k-1), c (k-2), .., c 0 in a row
unfoldable pub falling : (ℕ → List ℕ) → ℕ → List ℕ
falling c zero = []
falling c (suc k) = c k ++ falling c k

-- merges by their larger names
unfoldable pub merges_of : (ℕ → ℕ) → List ℕ → List Merge
merges_of s [] = []
merges_of s (i ∷ is) = (s i, i) ∷ merges_of s is

-- s has the smaller name of each pair, by its larger name
unfoldable pub Smaller : (ℕ → ℕ) → Tree → Type 0
Smaller s (leaf x) = Unit {0}
Smaller s (node l r) = (s (max (least l) (least r)) ≡ min (least l) (least r)) × Smaller s l × Smaller s r

-- x is in the list
unfoldable pub In : ℕ → List ℕ → Type 0
In x [] = ⊥
In x (y ∷ ys) = (x ≡ y) ⊎ In x ys

-- no number is in the list twice
unfoldable pub Apart : List ℕ → Type 0
Apart [] = Unit {0}
Apart (y ∷ ys) = (In y ys → ⊥) × Apart ys

-- every leaf of the tree is below m
abbrev pub Bounded : ℕ → Tree → Type 0
Bounded m t = (x : ℕ) → has t x ≡ true → x < m

-- a run of k: none, or k and then numbers above it
abbrev pub Starts : ℕ → List ℕ → Type 0
Starts k xs = (xs ≡ []) ⊎ ((ys : List ℕ) × (xs ≡ k ∷ ys) × ((y : ℕ) → In y ys → k < y))
