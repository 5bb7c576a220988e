-- The merge table: the table of a vector, and for a table that is read its faults, its tree and its clades.
-- Main definitions: Row, table_of, rows_of, row_fault, table_tree, Under, TableClade.
use Rattle.std.specs.Prelude.{Bool, true, false, not, ◌&&◌, ◌||◌, cond, ◌↔◌, ◌≡◌, ℕ, ◌+◌, ◌-◌, ◌<◌, eqb, ltb, length}
use mathlib.Core.List.{List, [], ◌∷◌, Memᴰ}
use Rattle.std.proofs.Math.Option.{Option, none, some}
use Rattle.rules.specs.Building.{Merge, merges}
use Rattle.rules.specs.Tree.{Tree, leaf, node, Clusters}

-- "Row t .. is three numbers: child, child, parent."
abbrev pub Row : Type 0
Row = ℕ × ℕ × ℕ

-- the rows of merges, where p is the next parent and number c is the node of the cluster named c:
-- "We write rows in the order of merges, the child with the smaller least leaf first."
unfoldable pub rows_from : ℕ → (ℕ → ℕ) → List Merge → List Row
rows_from p number [] = []
rows_from p number (m ∷ ms) =
    (number m.0, number m.1, p) ∷ rows_from (p + 1) (λ c. cond (eqb c m.0) p (number c)) ms

-- "Parent is n+t. A child is a leaf or an earlier row's parent."
unfoldable pub table_rows : List ℕ → List Row
unfolding rows_from merges
table_rows v = rows_from (length v) (λ c. c) (merges v)

-- rows as numbers in a row
unfoldable pub flat : List Row → List ℕ
flat [] = []
flat (r ∷ rs) = r.0 ∷ r.1 ∷ r.2 ∷ flat rs

-- the table of a vector
unfoldable pub table_of : List ℕ → List ℕ
unfolding flat table_rows
table_of v = flat (table_rows v)

-- numbers as rows
unfoldable pub rows_of : List ℕ → List Row
rows_of [] = []
rows_of (l ∷ []) = []
rows_of (l ∷ r ∷ []) = []
rows_of (l ∷ r ∷ p ∷ xs) = (l, r, p) ∷ rows_of xs

-- "both children below n+t"; p is n+t
unfoldable pub children_below : ℕ → Row → Bool
children_below p r = ltb r.0 p && ltb r.1 p

-- "A child in row t named before, or twice in it"
unfoldable pub named_twice : (ℕ → Bool) → Row → Bool
named_twice named r = named r.0 || named r.1 || eqb r.0 r.1

-- A refusal of the table: its number and its row.
abbrev pub Fault : Type 0
Fault = ℕ × ℕ

-- "rows upward with 5, 6, 7 in each": the first fault from row t on, where named are the children of the rows before
unfoldable pub row_fault : ℕ → ℕ → (ℕ → Bool) → List Row → Option Fault
unfolding children_below named_twice
row_fault n t named [] = none
row_fault n t named (r ∷ rs) =
    cond (not (eqb r.2 (n + t))) (some (5, t))
    (cond (not (children_below (n + t) r)) (some (6, t))
    (cond (named_twice named r) (some (7, t))
    (row_fault n (t + 1) (λ c. named c || eqb c r.0 || eqb c r.1) rs)))

-- the first fault of a table with n leaves
unfoldable pub table_fault : ℕ → List Row → Option Fault
unfolding row_fault
table_fault n rs = row_fault n 0 (λ c. false) rs

-- the nodes by their numbers, as trees, after some rows
unfoldable pub nodes_of : List Row → Clusters → Clusters
nodes_of [] c = c
nodes_of (r ∷ rs) c = nodes_of rs (λ k. cond (eqb k r.2) (node (c r.0) (c r.1)) (c k))

-- the tree of an accepted table: its last row's node, and the one leaf where there are no rows
unfoldable pub table_tree : ℕ → List Row → Tree
unfolding nodes_of
table_tree n rs = nodes_of rs leaf (n + length rs - 1)

-- Leaf x is under node k, by the rows alone: k is x, or a row has the parent k and a child that x is under.
pub data Under (rs : List Row) (x : ℕ) : ℕ → Type 0 where
  itself : Under rs x x
  left : (r : Row) → Memᴰ r rs → Under rs x r.0 → Under rs x r.2
  right : (r : Row) → Memᴰ r rs → Under rs x r.1 → Under rs x r.2

-- a clade of a table with n leaves is the set of the leaves under one of its nodes
unfoldable pub TableClade : ℕ → List Row → (ℕ → Bool) → Type 0
TableClade n rs c = (k : ℕ) × (k < n + length rs) × ((x : ℕ) → (c x ≡ true) ↔ ((x < n) × Under rs x k))
