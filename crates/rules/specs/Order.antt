-- The vector of a tree, by the two facts of 01: the order of its merges, and each entry from that order.
-- Main definitions: ready, best, order, earlier, entry_at, vector_of.
-- What vector_of gives is no matter of belief. Whatever the definitions below say, `laws OneToOne` proves of every tree whose leaves are 0
-- to n-1, each once: vector_of gives a valid vector of n entries whose tree has the clades of the given tree (every_tree), and no other
-- valid vector's tree has these clades (only_vector). To be believed is the building rule, which makes a tree of a vector.
use Rattle.std.specs.Prelude.{Bool, false, ◌&&◌, cond, List, [], ◌∷◌, ◌++◌, ℕ, zero, suc, ◌+◌, ◌-◌, min, max, eqb, ltb}
use Rattle.std.proofs.Math.Option.{Option, none, some}
use Rattle.rules.specs.Building.{Merge, follow}
use Rattle.rules.specs.Tree.{Tree, leaf, node, size}

-- In this file a leaf stands for a complete cluster with its name: a merged pair is put back as the leaf of its smaller name.
-- the merge of two parts, where both are complete
unfoldable pub ready : Tree → Tree → Option Merge
ready (leaf a) (leaf b) = some (min a b, max a b)
ready (leaf a) (node l r) = none
ready (node l r) u = none

-- of two merges the one whose larger name is greater
unfoldable pub greater : Option Merge → Option Merge → Option Merge
greater none q = q
greater (some p) none = some p
greater (some p) (some q) = cond (ltb p.1 q.1) (some q) (some p)

-- "of the pairs whose two clusters are complete, the one whose larger name is greatest"
unfoldable pub best : Tree → Option Merge
unfolding ready greater
best (leaf x) = none
best (node l r) = greater (ready l r) (greater (best l) (best r))

-- whether a merge is this one
unfoldable pub is_merge : Merge → Option Merge → Bool
is_merge m none = false
is_merge m (some p) = eqb m.0 p.0 && eqb m.1 p.1

-- the tree after a merge: its two clusters are one complete cluster, which keeps the smaller name
unfoldable pub collapse : Merge → Tree → Tree
unfolding is_merge ready
collapse m (leaf x) = leaf x
collapse m (node l r) = cond (is_merge m (ready l r)) (leaf m.0) (node (collapse m l) (collapse m r))

-- the first k merges of a tree
unfoldable pub ordered : ℕ → Tree → List Merge
unfolding best collapse follow
ordered zero t = []
ordered (suc k) t = follow (best t) (λ m. ordered k (collapse m t))

-- the order of a tree's merges
unfoldable pub order : Tree → List Merge
unfolding ordered size
order t = ordered (size t - 1) t

-- "s merges of two clusters both named below i came before i merged"
unfoldable pub earlier : ℕ → List Merge → ℕ
earlier i [] = 0
earlier i (m ∷ ms) = cond (eqb i m.1) 0 (cond (ltb m.0 i && ltb m.1 i) 1 0 + earlier i ms)

-- the cluster that i merged with; leaf 0 merges with none smaller, and has 0
unfoldable pub partner : ℕ → List Merge → ℕ
partner i [] = 0
partner i (m ∷ ms) = cond (eqb i m.1) m.0 (partner i ms)

-- "v(i) = a when s = 0, else v(i) = i-1+s"
unfoldable pub entry_from : ℕ → ℕ → ℕ → ℕ
entry_from i a s = cond (eqb s 0) a (i - 1 + s)

-- v(i), from the merges in their order
unfoldable pub entry_at : List Merge → ℕ → ℕ
unfolding entry_from partner earlier
entry_at ms i = entry_from i (partner i ms) (earlier i ms)

-- f 0, f 1, .., f (n-1)
unfoldable pub listed : ℕ → (ℕ → ℕ) → List ℕ
listed zero f = []
listed (suc n) f = listed n f ++ (f n ∷ [])

-- the vector of a tree: one entry for each leaf
unfoldable pub vector_of : Tree → List ℕ
unfolding listed entry_at order size
vector_of t = listed (size t) (entry_at (order t))
