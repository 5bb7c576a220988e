-- Counting: how often a leaf stands in a tree. Main definition: leaf_times.
use Rattle.std.specs.Prelude.{ℕ, ◌+◌}
use Rattle.rules.specs.Tree.{Tree, leaf, node}
use Rattle.merging.specs.Once.{hit}

-- how often x is a leaf of the tree
unfoldable pub leaf_times : ℕ → Tree → ℕ
unfolding hit
leaf_times x (leaf y) = hit x y
leaf_times x (node l r) = leaf_times x l + leaf_times x r
