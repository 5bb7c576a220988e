-- Rows given by their children alone, and the trees of their nodes. Main definitions: tied, tree_at, whole_tree.
use Rattle.std.specs.Prelude.{List, [], ◌∷◌, ℕ, ◌+◌, ◌-◌, take}
use Rattle.rules.specs.Tree.{Tree, leaf}
use Rattle.rules.specs.Table.{Row, nodes_of}

-- rows with these children, whose parents count up from p
unfoldable pub tied : ℕ → List ℕ → List ℕ → List Row
tied p [] R = []
tied p (l ∷ L) [] = []
tied p (l ∷ L) (r ∷ R) = (l, r, p) ∷ tied (p + 1) L R

-- the tree of a node, by the children of the first n-1 rows
unfoldable pub tree_at : ℕ → List ℕ → List ℕ → ℕ → Tree
unfolding nodes_of tied
tree_at n L R k = nodes_of (tied n (take (n - 1) L) (take (n - 1) R)) leaf k

-- the tree of the last node
unfoldable pub whole_tree : ℕ → List ℕ → List ℕ → Tree
unfolding tree_at
whole_tree n L R = tree_at n L R (n + (n - 1) - 1)
