-- The larger names of a tree: each of its inner nodes is the pair of exactly one of them. Main definitions: inner, Pair.
use Rattle.std.specs.Prelude.{◌≡◌, ◌⊎◌, ℕ, max}
use Rattle.rules.specs.Tree.{Tree, leaf, node, least}

-- 1 for an inner node
unfoldable pub inner : Tree → ℕ
inner (leaf x) = 0
inner (node l r) = 1

-- i is the larger name of a pair of the tree
unfoldable pub Pair : Tree → ℕ → Type 0
Pair (leaf x) i = ⊥
Pair (node l r) i = (max (least l) (least r) ≡ i) ⊎ (Pair l i ⊎ Pair r i)
