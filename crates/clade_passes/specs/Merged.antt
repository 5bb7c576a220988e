-- The leaf sets by merges: each merge adds the sets of its two clusters. They are the inner sets of the tree, each once, in the order of merges. Main
-- definitions: merged_sets, vector_sets, archive_sets.
use Rattle.std.specs.Prelude.{cond, List, [], ◌∷◌, ◌++◌, ℕ, ◌+◌, ◌^◌, eqb}
use Rattle.rules.specs.Building.{Merge, merges}
use Rattle.rules.specs.Tree.{Tree, leaf, node}
use Rattle.clades.specs.Size.{sum_leaves}

-- set c is the leaf set of the cluster named c
unfoldable pub merged_into : Merge → (ℕ → ℕ) → ℕ → ℕ
merged_into m set = λ x. cond (eqb x m.0) (set m.0 + set m.1) (set x)

unfoldable pub merged_sets : List Merge → (ℕ → ℕ) → List ℕ
unfolding merged_into
merged_sets [] set = []
merged_sets (m ∷ P) set = (set m.0 + set m.1) ∷ merged_sets P (merged_into m set)

-- the leaf sets of a vector's merges
unfoldable pub vector_sets : List ℕ → List ℕ
unfolding merged_sets merges
vector_sets v = merged_sets (merges v) (λ x. 2 ^ x)

-- the sums over the pairs of a tree, where leaf x counts set x
unfoldable pub inner_by : (ℕ → ℕ) → Tree → List ℕ
unfolding sum_leaves
inner_by set (leaf x) = []
inner_by set (node l r) = sum_leaves set (node l r) ∷ inner_by set l ++ inner_by set r

-- the sets of all merges of vectors, vector after vector
unfoldable pub archive_sets : List (List ℕ) → List ℕ
unfolding vector_sets
archive_sets [] = []
archive_sets (v ∷ vs) = vector_sets v ++ archive_sets vs
