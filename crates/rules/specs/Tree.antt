-- Rooted binary trees, the tree that merges build, clades as sets of leaves.
-- Main definitions: Tree, tree_of, has, least, Clade, SameClades, LeavesBelow.
use Rattle.std.specs.Prelude.{Bool, true, ◌||◌, cond, List, [], ◌∷◌, ◌⊎◌, ◌↔◌, ◌≡◌, ℕ, ◌+◌, min, eqb, ltb}
use Rattle.rules.specs.Building.{Merge, merges}

-- "rooted binary trees with n leaves": a leaf is given by its label
pub data Tree : Type 0 where
  leaf : ℕ → Tree
  node : Tree → Tree → Tree

-- The clusters by their names, as trees.
abbrev pub Clusters : Type 0
Clusters = ℕ → Tree

-- two clusters become one, which keeps the smaller name
unfoldable pub joined : Merge → Clusters → Clusters
joined m c = λ x. cond (eqb x m.0) (node (c m.0) (c m.1)) (c x)

-- the clusters after some merges
unfoldable pub grown : List Merge → Clusters → Clusters
unfolding joined
grown [] c = c
grown (m ∷ ms) c = grown ms (joined m c)

-- "Every leaf starts as a cluster named by itself .. After n-1 steps one cluster is left", named 0
unfoldable pub tree_of : List ℕ → Tree
unfolding grown merges
tree_of v = grown (merges v) leaf 0

-- x is a leaf of the tree
unfoldable pub has : Tree → ℕ → Bool
has (leaf y) x = eqb y x
has (node l r) x = has l x || has r x

-- the least leaf of a tree, which is the name of its cluster
unfoldable pub least : Tree → ℕ
least (leaf x) = x
least (node l r) = min (least l) (least r)

-- how many leaves a tree has
unfoldable pub size : Tree → ℕ
size (leaf x) = 1
size (node l r) = size l + size r

-- no leaf stands twice
unfoldable pub Distinct : Tree → Type 0
unfolding has
Distinct (leaf x) = Unit {0}
Distinct (node l r) = ((x : ℕ) → has l x ≡ true → has r x ≡ true → ⊥) × Distinct l × Distinct r

-- the leaves of the tree are 0 to n-1, each once
pub record LeavesBelow (n : ℕ) (t : Tree) : Type 0 where
  pub once : Distinct t
  pub all : (x : ℕ) → has t x ≡ ltb x n

-- a clade is the set of the leaves of one node of the tree
unfoldable pub Clade : Tree → (ℕ → Bool) → Type 0
unfolding has
Clade (leaf y) c = (x : ℕ) → c x ≡ has (leaf y) x
Clade (node l r) c = ((x : ℕ) → c x ≡ has (node l r) x) ⊎ (Clade l c ⊎ Clade r c)

-- the same clades: each set of leaves is a clade of both or of neither
unfoldable pub SameClades : Tree → Tree → Type 0
unfolding Clade
SameClades t u = (c : ℕ → Bool) → Clade t c ↔ Clade u c
