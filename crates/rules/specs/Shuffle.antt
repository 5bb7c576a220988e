-- Queue Shuffle and relabelling.
-- Main definitions: renamed, permutation_fault, taken, new_of.
use Rattle.std.specs.Prelude.{cond, List, [], ◌∷◌, ◌++◌, ℕ, zero, suc, ◌+◌, ◌-◌, ◌*◌, eqb, ltb}
use Rattle.std.proofs.Math.Option.{Option}
use Rattle.rules.specs.Names.{Placed, first_fault, fault_place}
use Rattle.rules.specs.Vector.{entry}
use Rattle.rules.specs.Tree.{Tree, leaf, node, least, size}
use Rattle.rules.specs.Order.{listed}

-- "leaf x becoming p(x)"
unfoldable pub renamed : List ℕ → Tree → Tree
unfolding entry
renamed p (leaf x) = leaf (entry p x)
renamed p (node l r) = node (renamed p l) (renamed p r)

-- values with their indexes, from index i on
unfoldable pub placed_from : ℕ → List ℕ → List Placed
placed_from i [] = []
placed_from i (x ∷ p) = (i, x) ∷ placed_from (i + 1) p

-- the place of refusal 11: the first index whose value is "not below n, or used before"
unfoldable pub permutation_fault : ℕ → ℕ → List ℕ → List ℕ → Option ℕ
unfolding placed_from first_fault fault_place
permutation_fault n i used p = fault_place (first_fault n used (placed_from i p))

-- The queue holds nodes with their labels.
abbrev pub Queue : Type 0
Queue = List (Tree × ℕ)

-- A leaf and the label that it gets.
abbrev pub Given : Type 0
Given = ℕ × ℕ

-- "the child with the smaller least old leaf keeps the label, the other takes the next label; both go to the back, the keeper first"
unfoldable pub behind : Tree → Tree → ℕ → ℕ → Queue
unfolding least
behind l r b next = cond (ltb (least l) (least r)) ((l, b) ∷ (r, next) ∷ []) ((r, b) ∷ (l, next) ∷ [])

-- "Take the front. A leaf x gets its label as new(x)." k nodes are taken; next is the next label.
unfoldable pub taken : ℕ → ℕ → Queue → List Given
unfolding behind
taken zero next q = []
taken (suc k) next [] = []
taken (suc k) next ((leaf x, b) ∷ q) = (x, b) ∷ taken k next q
taken (suc k) next ((node l r, b) ∷ q) = taken k (next + 1) (q ++ behind l r b next)

-- what leaf x was given
unfoldable pub given : List Given → ℕ → ℕ
given [] x = 0
given (g ∷ gs) x = cond (eqb x g.0) g.1 (given gs x)

-- "Put the root in a queue with label 0; the next label is 1." A tree of n leaves has 2n - 1 nodes.
unfoldable pub new_of : Tree → List ℕ
unfolding listed given taken size
new_of t = listed (size t) (given (taken (2 * size t - 1) 1 ((t, 0) ∷ [])))
