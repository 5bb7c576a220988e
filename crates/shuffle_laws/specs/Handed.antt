-- Queue Shuffle over inner nodes alone: a leaf's label is known when its parent is taken. It gives the same labels in the same order. Main
-- definitions: at_once, waiting, handed, fill, outcome.
use Rattle.std.specs.Prelude.{List, [], ◌∷◌, ◌++◌, ℕ, zero, suc, ◌+◌, set}
use Rattle.rules.specs.Tree.{leaf, node}
use Rattle.rules.specs.Shuffle.{Queue, Given, behind}

-- the leaves of a queue with their labels, which are given at once, and the inner nodes, which wait
unfoldable pub at_once : Queue → List Given
at_once [] = []
at_once ((leaf x, b) ∷ q) = (x, b) ∷ at_once q
at_once ((node l r, b) ∷ q) = at_once q

unfoldable pub waiting : Queue → Queue
waiting [] = []
waiting ((leaf x, b) ∷ q) = waiting q
waiting ((node l r, b) ∷ q) = (node l r, b) ∷ waiting q

-- what is given as k inner nodes are taken, where only inner nodes wait
unfoldable pub handed : ℕ → ℕ → Queue → List Given
unfolding behind
handed zero next q = []
handed (suc k) next [] = []
handed (suc k) next ((leaf x, b) ∷ q) = []
handed (suc k) next ((node l r, b) ∷ q) = at_once (behind l r b next) ++ handed k (next + 1) (q ++ waiting (behind l r b next))

-- each leaf's label is stored at the leaf
unfoldable pub fill : List Given → List ℕ → List ℕ
fill [] new = new
fill (g ∷ gs) new = fill gs (set new g.0 g.1)

-- the list of new labels once the nodes of B have joined the queue q, k inner nodes are to be taken, and next is the next label
unfoldable pub outcome : ℕ → ℕ → Queue → Queue → List ℕ → List ℕ
outcome k next q B new = fill (at_once B ++ handed k next (q ++ waiting B)) new
