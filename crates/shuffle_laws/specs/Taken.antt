-- What Queue Shuffle gives: each leaf one label, and each label below n to one leaf. Main definitions: inner, weigh, sum_given.
use Rattle.std.specs.Prelude.{List, [], ◌∷◌, ℕ, zero, suc, ◌+◌, ◌-◌, ◌*◌}
use Rattle.rules.specs.Tree.{Tree, leaf, node, size}
use Rattle.rules.specs.Shuffle.{Queue, Given, taken}
use Rattle.merging.specs.Once.{hit}

-- how many inner nodes, and how many nodes a tree has
unfoldable pub inner : Tree → ℕ
inner (leaf x) = 0
inner (node l r) = suc (inner l + inner r)

unfoldable pub nodes : Tree → ℕ
nodes (leaf x) = 1
nodes (node l r) = suc (nodes l + nodes r)

-- the sum of u over the leaves of a tree
unfoldable pub spread : (ℕ → ℕ) → Tree → ℕ
spread u (leaf x) = u x
spread u (node l r) = spread u l + spread u r

-- the sum of g over the trees and of w over the labels of a queue
unfoldable pub weigh : (Tree → ℕ) → (ℕ → ℕ) → Queue → ℕ
weigh g w [] = 0
weigh g w (e ∷ q) = g e.0 + w e.1 + weigh g w q

-- how many inner nodes, and how many nodes are under a queue
abbrev pub inner_in : Queue → ℕ
inner_in = weigh inner (λ b. 0)

abbrev pub nodes_in : Queue → ℕ
nodes_in = weigh nodes (λ b. 0)

-- the sum of w over k labels from next on
unfoldable pub run : (ℕ → ℕ) → ℕ → ℕ → ℕ
run w next zero = 0
run w next (suc k) = w next + run w (next + 1) k

-- the sum of u over the leaves and of w over the labels that are given
unfoldable pub sum_given : (ℕ → ℕ) → (ℕ → ℕ) → List Given → ℕ
sum_given u w [] = 0
sum_given u w (g ∷ gs) = u g.0 + w g.1 + sum_given u w gs

-- how often a leaf and a label are given
abbrev pub leaf_given : ℕ → List Given → ℕ
leaf_given x = sum_given (hit x) (λ b. 0)

abbrev pub label_given : ℕ → List Given → ℕ
label_given b = sum_given (λ x. 0) (hit b)

-- the whole list of what is given to the leaves of a tree
abbrev pub all_given : Tree → List Given
all_given t = taken (2 * size t - 1) 1 ((t, 0) ∷ [])
