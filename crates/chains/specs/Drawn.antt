-- The arrays of a whole tree: its smaller names and its chains.
-- Main definition: Drawn.
use Rattle.std.specs.Prelude.{List, ℕ, ◌≤◌, ◌<◌, length}
use Rattle.rules.specs.Tree.{Tree, LeavesBelow}
use Rattle.read_tables.specs.Chains.{chain, Smaller}
use Rattle.chains.specs.Key.{no_key}
use Rattle.chains.specs.Walk.{cell, ChainIs}

-- the arrays of a tree whose leaves are 0 to n-1: the smaller name of each pair by its larger name, and the chains
pub record Drawn (n : ℕ) (t : Tree) (small next last : List ℕ) : Type 0 where
  pub below : LeavesBelow n t
  pub smaller : Smaller (cell small) t
  pub chained : (k : ℕ) → k < n → ChainIs (cell next) (cell last) k (chain no_key t k)
  pub some_leaf : 1 ≤ n
  pub few : n ≤ 1024
  pub small_room : n ≤ length small
  pub next_room : n ≤ length next
  pub last_room : n ≤ length last
