-- The pairs of a tree, in the order in which their brackets close, are the rows of an accepted table of the tree. Main definitions: child_number,
-- closed_rows, number_of.
use Rattle.std.specs.Prelude.{◌≡◌, cond, ◌||◌, ◌⊎◌, eqb}
use Rattle.std.proofs.Math.Bool.{Bool, true, false}
use mathlib.Core.List.{List, [], ◌∷◌, ◌++◌, map}
use Prim.Native.Nat.{ℕ, ◌+◌, ◌-◌, ◌≤◌, ◌<◌}
use Rattle.std.proofs.Math.Dec.{ltb}
use Rattle.rules.specs.Tree.{Tree, leaf, node, has, Clusters}
use Rattle.rules.specs.Table.{Row}
use Rattle.written_tables.specs.Tied.{tied}
use Rattle.grammar.specs.Pairs.{pair_count}

-- a child's number among n leaves: a label is a leaf, pair number k is node n + k
unfoldable pub child_number : ℕ → ℕ → ℕ
child_number n c = cond (ltb c 16384) c (n + (c - 16384))

-- the rows of closed pairs
unfoldable pub closed_rows : ℕ → List (ℕ × ℕ) → List Row
unfolding tied child_number
closed_rows n P = tied n (map (λ c. child_number n c.0) P) (map (λ c. child_number n c.1) P)

-- the rows of closed pairs, behind k rows
unfoldable pub rows_for : ℕ → ℕ → List (ℕ × ℕ) → List Row
unfolding tied child_number
rows_for n k P = tied (n + k) (map (λ c. child_number n c.0) P) (map (λ c. child_number n c.1) P)

-- the number of a tree's node, where k pairs are closed before it
unfoldable pub number_of : ℕ → ℕ → Tree → ℕ
unfolding pair_count
number_of n k (leaf x) = x
number_of n k (node l r) = n + (k + pair_count l + pair_count r)

-- the rows of a tree's pairs
unfoldable pub tree_rows : ℕ → ℕ → Tree → List Row
unfolding number_of pair_count
tree_rows n k (leaf x) = []
tree_rows n k (node l r) =
    tree_rows n k l ++ (tree_rows n (k + pair_count l) r ++ ((number_of n k l, number_of n (k + pair_count l) r, n + (k + pair_count l + pair_count r)) ∷ []))

-- all leaves are below n, and n is small enough to tell a label from a pair
pub record Small (n : ℕ) (t : Tree) : Type 0 where
  pub few : n ≤ 16384
  pub below : (x : ℕ) → has t x ≡ true → x < n

-- the rows make the tree's node, and change no node of others
pub record Made (n k : ℕ) (t : Tree) (c c' : Clusters) : Type 0 where
  pub root : c' (number_of n k t) ≡ t
  pub others : (y : ℕ) → (y < n + k) ⊎ (n + k + pair_count t ≤ y) → c' y ≡ c y

-- the nodes that are named as a child once a tree's rows are read
unfoldable pub named_by : ℕ → ℕ → Tree → (ℕ → Bool) → (ℕ → Bool)
unfolding number_of pair_count
named_by n k (leaf x) named = named
named_by n k (node l r) named =
    λ c. named_by n (k + pair_count l) r (named_by n k l named) c || eqb c (number_of n k l) || eqb c (number_of n (k + pair_count l) r)

-- a node that a tree's rows do not name: its root, or no node of the tree
pub data Apart (n k : ℕ) (t : Tree) (y : ℕ) : Type 0 where
  its_root : y ≡ number_of n k t → Apart n k t y
  no_leaf : y < n → has t y ≡ false → Apart n k t y
  before : n ≤ y → y < n + k → Apart n k t y
  behind : n + k + pair_count t ≤ y → Apart n k t y

pub record Both (n k : ℕ) (l r : Tree) (y : ℕ) : Type 0 where
  pub left : Apart n k l y
  pub right : Apart n (k + pair_count l) r y
  pub not_left : y ≡ number_of n k l → ⊥
  pub not_right : y ≡ number_of n (k + pair_count l) r → ⊥

-- what is asked before a tree's rows are read: none of its nodes is named
pub record Free (n k : ℕ) (t : Tree) (named : ℕ → Bool) : Type 0 where
  pub leaves : (x : ℕ) → has t x ≡ true → named x ≡ false
  pub nodes : (y : ℕ) → n + k ≤ y → named y ≡ false
