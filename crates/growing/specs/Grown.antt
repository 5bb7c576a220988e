-- The tree that merges build. The first merge (a, i) makes of the leaf a of the tree of the others the parts a and i. Main definitions: filled,
-- graft.
use Rattle.rules.specs.Building.{Merge}
use Rattle.rules.specs.Tree.{Tree, leaf, node, Clusters, joined}

-- a tree of clusters: each leaf is the cluster of its name
unfoldable pub filled : Clusters → Tree → Tree
filled c (leaf x) = c x
filled c (node l r) = node (filled c l) (filled c r)

-- a merge undone: the leaf of the smaller name is made into the pair
unfoldable pub graft : Merge → Tree → Tree
unfolding filled joined
graft m t = filled (joined m leaf) t
