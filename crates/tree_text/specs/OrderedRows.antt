-- The rows of a vector, as children by their numbers: each child stands before its row's node, the child with the smaller
-- least leaf first, and the tree of the last node is the vector's.
-- Main definitions: lefts, rights. Main results: least_first, rows_ordered, rows_tree.
use Rattle.std.specs.Prelude.{List, [], ◌∷◌, map, ◌≡◌, ℕ, zero, suc, ◌-◌, ◌≤◌, ◌<◌, get_or, take, drop}
use Rattle.std.proofs.Common.{sym, ap, ap₂, subst, ◌∙◌, arith, take-append-drop, take_all}
use Rattle.std.proofs.Math.ListN.{length, get_or-map}
use Rattle.std.proofs.lemmas.List.{length-map}
use Rattle.rules.specs.Vector.{entry, Valid}
use Rattle.rules.specs.Building.{Merge}
use Rattle.rules.specs.Tree.{leaf, least, tree_of}
use Rattle.rules.specs.Table.{rows_from, nodes_of, table_tree}
use Rattle.merging.specs.Insertion.{pairs_of, pairs}
use Rattle.merging.proofs.Insertion.{pairs_count, valid_bounded}
use Rattle.merging.specs.Greedy.{Under}
use Rattle.merging.proofs.Greedy.{under_pairs}
use Rattle.merging.specs.Named.{Good, Rising}
use Rattle.merging.proofs.Named.{good, rising}
use Rattle.merging.proofs.Rest.{rising_first}
use Rattle.growing.proofs.Grown.{least_grown}
use Rattle.laws.proofs.TreeOf.{tree_by_pairs}
use Rattle.written_tables.specs.Tied.{tied, tree_at, whole_tree}
use Rattle.written_tables.proofs.Tied.{tree_whole}
use Rattle.written_tables.specs.Rows.{first, second, vector_rows}
use Rattle.written_tables.proofs.Rows.{rows_length, tied_rows}
use Rattle.written_tables.proofs.Accepted.{pairs_below}
use Rattle.written_tables.proofs.Grown.{same_start, row_clusters, pairs_tree}
use Rattle.text_writer.specs.Output.{Ordered}

-- the smaller name of each merge is first
rising_at : (P : List Merge) → Rising P → (j : ℕ) → j < length P → (get_or P j (0, 0)).0 < (get_or P j (0, 0)).1
unfolding Rising
rising_at [] R j h = absurd (omega arith)
rising_at (m ∷ P) R zero h = R.0
rising_at (m ∷ P) R (suc j) h = rising_at P R.1 j (omega arith)

-- the child with the smaller least leaf is first in row j: its cluster has the smaller name, which is its least leaf
least_first : (n : ℕ) (P : List Merge) → suc (length P) ≡ n → Under n P → Good P → Rising P → (j : ℕ) → j < length P
    → least (nodes_of (rows_from n (λ c. c) P) leaf (get_or (rows_from n (λ c. c) P) j (0, 0, 0)).0) < least (nodes_of (rows_from n (λ c. c) P) leaf (get_or (rows_from n (λ c. c) P) j (0, 0, 0)).1)
least_first n P e u G R j h =
    let before = rising_first (take j P) (drop j P) (subst Rising (sym (take-append-drop j P)) R) in
    let clusters = row_clusters P n (λ c. c) leaf leaf G (same_start n P e u) j h in
    rw (clusters.0, clusters.1, least_grown (take j P) before (get_or P j (0, 0)).0, least_grown (take j P) before (get_or P j (0, 0)).1) (rising_at P R j h)

-- the children of a vector's rows
abbrev pub lefts : List ℕ → List ℕ
lefts v = map first (vector_rows v)

abbrev pub rights : List ℕ → List ℕ
rights v = map second (vector_rows v)

pub left_at : (v : List ℕ) (j : ℕ) → get_or (lefts v) j 0 ≡ (get_or (vector_rows v) j (0, 0, 0)).0
left_at v j = get_or-map first (vector_rows v) j (0, 0, 0)

pub right_at : (v : List ℕ) (j : ℕ) → get_or (rights v) j 0 ≡ (get_or (vector_rows v) j (0, 0, 0)).1
right_at v j = get_or-map second (vector_rows v) j (0, 0, 0)

module _ (v : List ℕ) (ok : Valid v) (few : length v ≤ 1024) where
  count : length (vector_rows v) ≡ length v - 1
  unfolding pairs
  count = rows_length (length v) (λ c. c) (pairs v) ∙ pairs_count (entry v) (length v)

  left_count : length (lefts v) ≡ length v - 1
  left_count = length-map (vector_rows v) first ∙ count

  right_count : length (rights v) ≡ length v - 1
  right_count = length-map (vector_rows v) second ∙ count

  table : tied (length v) (take (length v - 1) (lefts v)) (take (length v - 1) (rights v)) ≡ vector_rows v
  table =
      ap₂ (tied (length v)) (take_all (length v - 1) (lefts v) (omega (arith, left_count))) (take_all (length v - 1) (rights v) (omega (arith, right_count)))
      ∙ tied_rows (length v) (λ c. c) (pairs v)

  in_rows : (j : ℕ) → j < length v - 1
      → least (nodes_of (vector_rows v) leaf (get_or (vector_rows v) j (0, 0, 0)).0) < least (nodes_of (vector_rows v) leaf (get_or (vector_rows v) j (0, 0, 0)).1)
  unfolding pairs
  in_rows j h =
      let n = length v in
      let long = pairs_count (entry v) n in
      let bounded = valid_bounded v ok in
      least_first n (pairs_of (entry v) n) (omega (arith, long, ok.some_leaf)) (under_pairs (entry v) n) (good (entry v) n bounded) (rising (entry v) n bounded) j (omega (arith, long))

  pub rows_ordered : Ordered (length v) (lefts v) (rights v)
  unfolding tree_at
  rows_ordered = record {
    some_leaf = ok.some_leaf;
    few = few;
    lefts_there = omega (arith, left_count);
    rights_there = omega (arith, right_count);
    left_below = λ j h. omega (arith, left_at v j, (pairs_below v ok j h).0);
    right_below = λ j h. omega (arith, right_at v j, (pairs_below v ok j h).1);
    smaller_first = λ j h. rw (table, left_at v j, right_at v j) (in_rows j h);
  }

  pub rows_tree : whole_tree (length v) (lefts v) (rights v) ≡ tree_of v
  rows_tree =
      tree_whole (length v) (lefts v) (rights v) ok.some_leaf (omega (arith, left_count)) (omega (arith, right_count)) ∙ ap (table_tree (length v)) table ∙ pairs_tree v ok
      ∙ sym (tree_by_pairs v ok)
