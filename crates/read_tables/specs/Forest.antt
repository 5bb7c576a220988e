-- What accepted rows leave: the nodes not yet named as a child have disjoint leaf sets that together are 0..n-1; after n-1 rows one is left. Main
-- definitions: named_in, RowOk, Forest.
use Rattle.std.specs.Prelude.{◌≡◌, ◌≢◌, Bool, true, false, ◌||◌, List, [], ◌∷◌}
use Rattle.std.proofs.Math.Bool.{not}
use Prim.Native.Nat.{ℕ, ◌+◌, ◌-◌, ◌≤◌, ◌<◌}
use Rattle.std.proofs.Math.Dec.{eqb}
use Rattle.rules.specs.Tree.{has, Distinct, Clusters}
use Rattle.rules.specs.Table.{Row}
use Rattle.read_tables.specs.Count.{count}

-- k is a child of the row, or was named before
unfoldable pub named_also : (ℕ → Bool) → Row → ℕ → Bool
named_also named r k = named k || eqb k r.0 || eqb k r.1

-- the children of rows
unfoldable pub named_in : (ℕ → Bool) → List Row → ℕ → Bool
unfolding named_also
named_in named [] = named
named_in named (r ∷ rs) = named_in (named_also named r) rs

-- row t is accepted after rows with these children
pub record RowOk (n t : ℕ) (named : ℕ → Bool) (r : Row) : Type 0 where
  pub parent : r.2 ≡ n + t
  pub first : r.0 < n + t
  pub second : r.1 < n + t
  pub first_new : named r.0 ≡ false
  pub second_new : named r.1 ≡ false
  pub differ : r.0 ≢ r.1

-- t rows are accepted; c are the nodes by their numbers
pub record Forest (n t : ℕ) (named : ℕ → Bool) (c : Clusters) : Type 0 where
  pub early : (k : ℕ) → named k ≡ true → k < n + t
  pub last : 1 ≤ n → named (n + t - 1) ≡ false
  pub left : count (λ k. not (named k)) (n + t) + t ≡ n
  pub once : (k : ℕ) → k < n + t → Distinct (c k)
  pub below : (k x : ℕ) → k < n + t → has (c k) x ≡ true → x < n
  pub apart : (k h x : ℕ) → k < n + t → h < n + t → named k ≡ false → named h ≡ false → has (c k) x ≡ true → has (c h) x ≡ true → k ≡ h
  pub cover : (x : ℕ) → x < n → (k : ℕ) × (k < n + t) × (named k ≡ false) × (has (c k) x ≡ true)
