-- The table that is written of a vector's tree: its rows make that tree, in the order of merges, the child with the smaller least leaf first. Main
-- result: written_table.
use Rattle.std.specs.Prelude.{List, ◌≡◌, ℕ, suc, ◌+◌, ◌-◌, ◌<◌, length, take, drop}
use Rattle.std.proofs.Math.Option.{none}
use Rattle.std.proofs.Common.{sym, ap, ◌∙◌, subst, arith, take-append-drop}
use Rattle.rules.specs.Vector.{Valid}
use Rattle.rules.specs.Building.{merges}
use Rattle.rules.specs.Tree.{leaf, least, tree_of}
use Rattle.rules.specs.Table.{Row, rows_from, table_rows, table_of, rows_of, table_fault, nodes_of}
use Rattle.clades.proofs.Leaves.{least_has, least_le}
use Rattle.merging.specs.Named.{Rising}
use Rattle.merging.proofs.Rest.{rising_first}
use Rattle.building.proofs.Built.{merges_length}
use Rattle.building.specs.InOrder.{InOrder}
use Rattle.building.proofs.InOrder.{merges_in_order}
use Rattle.growing.proofs.Grown.{least_grown}
use Rattle.written_tables.proofs.Flat.{rows_of_flat}
use Rattle.written_tables.proofs.Nodes.{accepted_stands, stands_row}
use Rattle.written_tables.proofs.Rows.{rows_length, parent_at}
use Rattle.written_tables.proofs.Accepted.{table_accepted}
use Rattle.written_tables.proofs.Grown.{same_start, row_clusters, table_tree_lem}
use Rattle.read_tables.proofs.Forest.{forest_table}
use Rattle.read_tables.proofs.Clades.{under_has, has_under}
use Rattle.laws.proofs.FactOne.{fact_one_at_each_step, complete_larger_name}
use Rattle.demands.specs.Conditions.{row_at}
use Rattle.demands.specs.WrittenTable.{LeastUnder, merge_at, clusters_at, WrittenTable}

-- the least leaf of a node's tree is the least leaf under the node
least_under : (n : ℕ) (rs : List Row) → table_fault n rs ≡ none → (k x : ℕ) → k < n + length rs → least (nodes_of rs leaf k) ≡ x → LeastUnder n rs k x
least_under n rs ok k x h e =
    let own = rw e at (least_has (nodes_of rs leaf k)) in
    record {
      a_leaf = (forest_table n rs ok).below k x h own;
      under = has_under n rs ok (suc k) k x (omega arith) h own;
      no_less = λ y l u. omega (arith, least_le (nodes_of rs leaf k) y (under_has n rs ok l u));
    }

-- the rows of a valid vector
module _ (v : List ℕ) (ok : Valid v) where
  abbrev rows : List Row
  rows = rows_from (length v) (λ c. c) (merges v)

  in_order : InOrder (length v) (merges v)
  in_order = merges_in_order v ok

  long : suc (length (merges v)) ≡ length v
  long = let l = ok.some_leaf in omega (arith, merges_length v ok)

  accepted_rows : table_fault (length v) rows ≡ none
  accepted_rows = table_accepted (length v) (merges v) ok.some_leaf in_order.of_leaves in_order.of_clusters

  module _ (t : ℕ) (h : t < length v - 1) where
    within : t < length (merges v)
    within = omega (arith, long)

    children_below : ((row_at rows t).0 < length v + t) × ((row_at rows t).1 < length v + t)
    children_below =
        stands_row (length v) rows t (0, 0, 0) (accepted_stands (length v) rows accepted_rows)
        (omega (arith, within, rows_length (length v) (λ c. c) (merges v)))

    merged : (nodes_of rows leaf (row_at rows t).0 ≡ clusters_at v t (merge_at v t).0) × (nodes_of rows leaf (row_at rows t).1 ≡ clusters_at v t (merge_at v t).1)
    merged =
        row_clusters (merges v) (length v) (λ c. c) leaf leaf in_order.of_clusters (same_start (length v) (merges v) long in_order.of_leaves) t within

    rises : Rising (take t (merges v))
    rises = rising_first (take t (merges v)) (drop t (merges v)) (subst Rising (sym (take-append-drop t (merges v))) in_order.smaller_first)

    -- a child has the name of its cluster as its least leaf
    child_named : (k c : ℕ) → k < length v + t → nodes_of rows leaf k ≡ clusters_at v t c → LeastUnder (length v) rows k c
    child_named k c l e =
        least_under (length v) rows accepted_rows k c (omega (arith, within, rows_length (length v) (λ c. c) (merges v)))
        (ap least e ∙ least_grown (take t (merges v)) rises c)

-- "the child with the smaller least leaf first", for the numbers that to_table writes, read as rows
pub written_table : (v : List ℕ) → Valid v → WrittenTable v (rows_of (table_of v))
unfolding table_of table_rows tree_of
written_table v ok = rw (rows_of_flat (rows v ok)) (record {
  count = rows_length (length v) (λ c. c) (merges v) ∙ merges_length v ok;
  accepted = accepted_rows v ok;
  of_the_tree = table_tree_lem (length v) (merges v) (long v ok) (in_order v ok).of_leaves (in_order v ok).of_clusters;
  parent = λ t h. parent_at (length v) (λ c. c) (merges v) t (within v ok t h);
  children = children_below v ok;
  order_of_merges = merged v ok;
  smaller_first = λ t h.
      let b = children_below v ok t h in
      let m = merged v ok t h in (
        (merge_at v t).0,
        (merge_at v t).1,
        child_named v ok t h _ _ b.0 m.0,
        child_named v ok t h _ _ b.1 m.1,
        complete_larger_name v ok t (merge_at v t) (fact_one_at_each_step v ok t (within v ok t h)).is_one,
      );
})
