-- Every list of merges in the greedy order, with each larger name once, is that of a vector: the one that fact 2 reads from it. Main definitions:
-- LastPut, InOrder.
use Rattle.std.specs.Prelude.{◌≡◌, List, ℕ, ◌-◌, ◌≤◌, ◌<◌, length}
use Rattle.rules.specs.Building.{Merge}
use Rattle.rules.specs.Order.{entry_at}
use Rattle.merging.specs.Insertion.{insert}
use Rattle.merging.specs.Once.{times, without}
use Rattle.merging.specs.Greedy.{Greedy, Under}
use Rattle.merging.specs.Named.{Good, Rising}

-- The merge of the last leaf n is the one that its entry puts in, and the others keep the greedy order.
pub record LastPut (n : ℕ) (P : List Merge) : Type 0 where
  pub put_in : insert n (entry_at P n) (without n P) ≡ P
  pub still_greedy : Greedy (without n P)
  pub within : n ≤ entry_at P n → entry_at P n - n < length (without n P)

-- The merges of n leaves in the order of fact 1, as a list: each larger name from 1 to n-1 once.
pub record InOrder (n : ℕ) (P : List Merge) : Type 0 where
  pub smaller_first : Rising P
  pub of_clusters : Good P
  pub greatest_first : Greedy P
  pub of_leaves : Under n P
  pub each_once : (i : ℕ) → 1 ≤ i → i < n → times i P ≡ 1
