-- The table that is written of a vector's tree: its rows make that tree, in the order of merges, the child with the smaller least leaf first. Main
-- definitions: LeastUnder, WrittenTable.
use Rattle.std.specs.Prelude.{List, ◌≡◌, ℕ, ◌+◌, ◌-◌, ◌≤◌, ◌<◌, length, take, get_or}
use Rattle.std.proofs.Math.Option.{none}
use Rattle.rules.specs.Building.{Merge, merges}
use Rattle.rules.specs.Tree.{leaf, Clusters, grown, tree_of}
use Rattle.rules.specs.Table.{Row, table_fault, nodes_of, table_tree, Under}
use Rattle.demands.specs.Conditions.{row_at}

-- x is the least leaf under node k, by the rows alone
pub record LeastUnder (n : ℕ) (rs : List Row) (k x : ℕ) : Type 0 where
  pub a_leaf : x < n
  pub under : Under rs x k
  pub no_less : (y : ℕ) → y < n → Under rs y k → x ≤ y

-- merge number t of a vector
abbrev pub merge_at : List ℕ → ℕ → Merge
merge_at v t = get_or (merges v) t (0, 0)

-- the clusters after the first t merges of a vector
abbrev pub clusters_at : List ℕ → ℕ → Clusters
clusters_at v t = grown (take t (merges v)) leaf

-- "Row t, t from 0 to n-2, is three numbers: child, child, parent. Parent is n+t. A child is a leaf or an earlier row's parent. We write rows in
-- the order of merges, the child with the smaller least leaf first."
pub record WrittenTable (v : List ℕ) (rs : List Row) : Type 0 where
  pub count : length rs ≡ length v - 1
  pub accepted : table_fault (length v) rs ≡ none
  pub of_the_tree : table_tree (length v) rs ≡ tree_of v
  pub parent : (t : ℕ) → t < length v - 1 → (row_at rs t).2 ≡ length v + t
  pub children : (t : ℕ) → t < length v - 1 → ((row_at rs t).0 < length v + t) × ((row_at rs t).1 < length v + t)
  pub order_of_merges : (t : ℕ) → t < length v - 1
      → (nodes_of rs leaf (row_at rs t).0 ≡ clusters_at v t (merge_at v t).0) × (nodes_of rs leaf (row_at rs t).1 ≡ clusters_at v t (merge_at v t).1)
  pub smaller_first : (t : ℕ) → t < length v - 1
      → (x : ℕ) × (y : ℕ) × LeastUnder (length v) rs (row_at rs t).0 x × LeastUnder (length v) rs (row_at rs t).1 y × (x < y)
