-- The rows of a table, zipped from two lists: the first and the second child of each row; row t has the parent n + t. Main definitions: zipped_rows,
-- NodesFrom, Tabled.
use Rattle.std.specs.Prelude.{◌≡◌, List, [], ◌∷◌, ℕ, zero, suc, ◌+◌, ◌-◌, ◌<◌, get_or}
use Rattle.std.proofs.Math.Option.{none}
use Rattle.rules.specs.Tree.{Tree, leaf, node, Clusters, LeavesBelow}
use Rattle.rules.specs.Table.{Row, table_fault, nodes_of, table_tree}
use Rattle.clades.specs.Form.{Turned}

-- k rows from row t on
unfoldable pub zipped_from : ℕ → List ℕ → List ℕ → ℕ → ℕ → List Row
zipped_from n left right t zero = []
zipped_from n left right t (suc k) = (get_or left t 0, get_or right t 0, n + t) ∷ zipped_from n left right (t + 1) k

-- the n - 1 rows of a table with n leaves
unfoldable pub zipped_rows : ℕ → List ℕ → List ℕ → List Row
unfolding zipped_from
zipped_rows n left right = zipped_from n left right 0 (n - 1)

-- the nodes of the rows by their numbers, and the tree of the rows
abbrev pub zipped_nodes : ℕ → List ℕ → List ℕ → Clusters
zipped_nodes n left right = nodes_of (zipped_rows n left right) leaf

abbrev pub zipped_tree : ℕ → List ℕ → List ℕ → Tree
zipped_tree n left right = table_tree n (zipped_rows n left right)

-- The rows are accepted, their tree has the leaves 0 to n-1, and at each node the first child has the smaller least leaf.
pub record Tabled (n : ℕ) (left right : List ℕ) : Type 0 where
  pub accepted : table_fault n (zipped_rows n left right) ≡ none
  pub leaves : LeavesBelow n (zipped_tree n left right)
  pub turned : Turned (zipped_tree n left right)

-- What the nodes of accepted rows are: leaves below n, and from n on the pair of a row's children, which are below it.
pub record NodesFrom (n : ℕ) (T : Clusters) (left right : List ℕ) : Type 0 where
  pub leaves : (x : ℕ) → x < n → T x ≡ leaf x
  pub pairs : (j : ℕ) → j < n - 1 → T (n + j) ≡ node (T (get_or left j 0)) (T (get_or right j 0))
  pub first : (j : ℕ) → j < n - 1 → get_or left j 0 < n + j
  pub second : (j : ℕ) → j < n - 1 → get_or right j 0 < n + j
