-- The shuffled tree: each node in the queue has the least new leaf that is its label, and the pairs fall. So its vector is ordered. Main definitions:
-- relabelled, Fits.
use Rattle.std.specs.Prelude.{◌≡◌, [], ◌∷◌, ℕ, ◌<◌}
use Rattle.rules.specs.Tree.{Tree, leaf, node, least}
use Rattle.rules.specs.Shuffle.{Queue}
use Rattle.shuffle_laws.specs.Count.{leaf_times}
use Rattle.shuffle_laws.specs.Taken.{weigh}
use Rattle.shuffle_laws.specs.Falling.{Falling}

-- the tree with leaf x renamed f x
unfoldable pub relabelled : (ℕ → ℕ) → Tree → Tree
relabelled f (leaf x) = leaf (f x)
relabelled f (node l r) = node (relabelled f l) (relabelled f r)

-- with the new names f the least leaf of the tree is b, and its larger names fall from next on
unfoldable pub Fits : (ℕ → ℕ) → ℕ → Tree → ℕ → Type 0
Fits f next t b = (least (relabelled f t) ≡ b) × Falling next (relabelled f t)

unfoldable pub AllFit : (ℕ → ℕ) → ℕ → Queue → Type 0
AllFit f next [] = Unit {0}
AllFit f next (e ∷ q) = Fits f next e.0 e.1 × AllFit f next q

-- the labels in the queue are below next
unfoldable pub Labels : ℕ → Queue → Type 0
Labels next [] = Unit {0}
Labels next (e ∷ q) = (e.1 < next) × Labels next q

-- how often x is a leaf under the queue
abbrev pub leaves_in : ℕ → Queue → ℕ
leaves_in x = weigh (leaf_times x) (λ b. 0)
