-- The parts of a tree: the trees of its nodes. Main definition: Part.
use Rattle.std.specs.Prelude.{◌≡◌, ◌⊎◌}
use Rattle.rules.specs.Tree.{Tree, leaf, node}

-- s is the part of the tree at one of its nodes
unfoldable pub Part : Tree → Tree → Type 0
Part s (leaf x) = s ≡ leaf x
Part s (node l r) = (s ≡ node l r) ⊎ (Part s l ⊎ Part s r)
