-- How many leaves: a sum over the leaves of a tree is one over the numbers that are its leaves, so that a tree with the leaves 0 to n-1 has n of
-- them, and a tree with n different leaves below n has all of these. Main definition: sum_leaves.
use Rattle.std.specs.Prelude.{ℕ, ◌+◌}
use Rattle.rules.specs.Tree.{Tree, leaf, node}

-- the sum of f over the leaves
unfoldable pub sum_leaves : (ℕ → ℕ) → Tree → ℕ
sum_leaves f (leaf x) = f x
sum_leaves f (node l r) = sum_leaves f l + sum_leaves f r
