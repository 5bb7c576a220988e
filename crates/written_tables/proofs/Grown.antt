-- The tree of a table that is written is the tree that its merges build, and its rows are the merges in their order. Main results: row_clusters,
-- rows_grow, table_tree_lem, pairs_tree.
use Rattle.std.specs.Prelude.{◌≡◌, refl, true, List, [], ◌∷◌, ℕ, zero, suc, ◌+◌, ◌-◌, ◌<◌, length, take, get_or}
use Rattle.std.proofs.Common.{ap₂, ◌∙◌, arith, eqb-true, eq-eqb, ne_eqb}
use Rattle.rules.specs.Vector.{entry, Valid}
use Rattle.rules.specs.Building.{Merge}
use Rattle.rules.specs.Tree.{leaf, node, Clusters, joined, grown}
use Rattle.rules.specs.Table.{rows_from, nodes_of, table_tree}
use Rattle.merging.specs.Insertion.{pairs_of, pairs}
use Rattle.merging.proofs.Insertion.{valid_bounded, pairs_count}
use Rattle.merging.specs.Greedy.{Under}
use Rattle.merging.proofs.Greedy.{under_pairs}
use Rattle.merging.specs.Named.{named, Good}
use Rattle.merging.proofs.Named.{good, smaller_named, larger_named, still_named, named_below}
use Rattle.written_tables.specs.Nodes.{noded}
use Rattle.written_tables.proofs.Nodes.{nodes_keep}
use Rattle.written_tables.specs.Rows.{vector_rows, renumber}
use Rattle.written_tables.proofs.Rows.{renumber_below, rows_length}
use Rattle.written_tables.proofs.Follows.{nodes_follow, rows_count_up}
use Rattle.written_tables.specs.Grown.{Same}

-- the last merge is one with 0
last_merge : (m : Merge) (P : List Merge) → Good (m ∷ P) → length P ≡ 0 → 0 ≡ m.0
unfolding Good named
last_merge m [] G e = eqb-true 0 m.0 G.0
last_merge m (q ∷ P) G e = absurd (omega arith)

same_next : (m : Merge) (P : List Merge) (p : ℕ) (number : ℕ → ℕ) (C D : Clusters) → Good (m ∷ P) → Same (m ∷ P) p number C D → Same P (p + 1) (renumber number m.0 p) (noded C (number m.0, number m.1, p)) (joined m D)
unfolding joined
same_next m P p number C D G S = record {
  below = λ x h. renumber_below number m.0 p x (old x h);
  tree = nodes_follow (λ x k. C k ≡ D x) (λ x k. noded C (number m.0, number m.1, p) k ≡ joined m D x) m P p number S.tree
      (rw (eq-eqb p p refl, eq-eqb m.0 m.0 refl) (ap₂ node (S.tree m.0 (smaller_named m P G)) (S.tree m.1 (larger_named m P))))
      (λ x h d e. rw (ne_eqb (number x) p (λ q. omega (arith, old x h)), ne_eqb x m.0 d) e);
  last = λ e. let z : p + 1 - 1 ≡ p = omega arith in rw (eq-eqb 0 m.0 (last_merge m P G e), z);
}
  where
    old : (x : ℕ) → named P x ≡ true → number x < p
    old x h = S.below x (still_named m P x h)

-- the children of row t are the two clusters of merge t, as they are after the merges before it
pub row_clusters : (P : List Merge) (p : ℕ) (number : ℕ → ℕ) (C D : Clusters) → Good P → Same P p number C D → (t : ℕ) → t < length P
    → (nodes_of (rows_from p number P) C (get_or (rows_from p number P) t (0, 0, 0)).0 ≡ grown (take t P) D (get_or P t (0, 0)).0)
    × (nodes_of (rows_from p number P) C (get_or (rows_from p number P) t (0, 0, 0)).1 ≡ grown (take t P) D (get_or P t (0, 0)).1)
unfolding rows_from grown nodes_of Good
row_clusters [] p number C D G S t h = absurd (omega arith)
row_clusters (m ∷ P) p number C D G S zero h = (child m.0 (smaller_named m P G), child m.1 (larger_named m P))
  where
    child : (x : ℕ) → named (m ∷ P) x ≡ true → nodes_of (rows_from p number (m ∷ P)) C (number x) ≡ D x
    child x e = nodes_keep p (rows_from p number (m ∷ P)) C (number x) (rows_count_up p number (m ∷ P)) (S.below x e) ∙ S.tree x e
row_clusters (m ∷ P) p number C D G S (suc t) h =
    row_clusters P (p + 1) (renumber number m.0 p) (noded C (number m.0, number m.1, p)) (joined m D) G.2
    (same_next m P p number C D G S) t (omega arith)

-- the last row's node is the one cluster that is left
pub rows_grow : (P : List Merge) (p : ℕ) (number : ℕ → ℕ) (C D : Clusters) → Good P → Same P p number C D → nodes_of (rows_from p number P) C (p + length P - 1) ≡ grown P D 0
unfolding nodes_of rows_from grown Good named
rows_grow [] p number C D G S =
    let z : p + 0 - 1 ≡ p - 1 = omega arith in
    rw (z, ← S.last refl) (S.tree 0 refl)
rows_grow (m ∷ P) p number C D G S =
    let z : p + suc (length P) - 1 ≡ p + 1 + length P - 1 = omega arith in
    rw z
    (rows_grow P (p + 1) (renumber number m.0 p) (noded C (number m.0, number m.1, p)) (joined m D) G.2 (same_next m P p number C D G S))

-- before the first row each name is its own node
pub same_start : (n : ℕ) (P : List Merge) → suc (length P) ≡ n → Under n P → Same P n (λ c. c) leaf leaf
same_start n P e u = record { below = named_below n P (omega arith) u; tree = λ x h. refl; last = λ h. omega arith }

pub table_tree_lem : (n : ℕ) (P : List Merge) → suc (length P) ≡ n → Under n P → Good P → table_tree n (rows_from n (λ c. c) P) ≡ grown P leaf 0
unfolding table_tree
table_tree_lem n P e u G = rw (rows_length n (λ c. c) P) (rows_grow P n (λ c. c) leaf leaf G (same_start n P e u))

-- the tree of a vector's table
pub pairs_tree : (v : List ℕ) → Valid v → table_tree (length v) (vector_rows v) ≡ grown (pairs v) leaf 0
unfolding pairs
pairs_tree v ok =
    let some = ok.some_leaf in
    table_tree_lem (length v) (pairs_of (entry v) (length v)) (omega (arith, pairs_count (entry v) (length v))) (under_pairs (entry v) (length v))
    (good (entry v) (length v) (valid_bounded v ok))
