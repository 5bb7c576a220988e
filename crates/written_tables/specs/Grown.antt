-- The tree of a table that is written is the tree that its merges build, and its rows are the merges in their order.
use Rattle.std.specs.Prelude.{◌≡◌, true, List, ℕ, ◌-◌, ◌<◌, length}
use Rattle.rules.specs.Building.{Merge}
use Rattle.rules.specs.Tree.{Clusters}
use Rattle.merging.specs.Named.{named}

-- Each name that is left has a node below p, and the node's tree is the cluster's; where no merge is left, 0 has the last node.
pub record Same (P : List Merge) (p : ℕ) (number : ℕ → ℕ) (C D : Clusters) : Type 0 where
  pub below : (x : ℕ) → named P x ≡ true → number x < p
  pub tree : (x : ℕ) → named P x ≡ true → C (number x) ≡ D x
  pub last : length P ≡ 0 → number 0 ≡ p - 1
