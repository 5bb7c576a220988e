-- The clades of a table that is read, told by its rows, are those of its tree.
use Rattle.std.specs.Prelude.{◌≡◌}
use mathlib.Core.List.Memᴰ
use Prim.Native.Nat.{ℕ, ◌≤◌, ◌<◌}
use Rattle.rules.specs.Tree.{node, Clusters}
use Rattle.rules.specs.Table.{Row}

-- a row's node is the pair of its children's
unfoldable pub Linked : ℕ → ℕ → Clusters → Row → Type 0
Linked low high c r = (r.0 < r.2) × (r.1 < r.2) × (low ≤ r.2) × (r.2 < high) × (c r.2 ≡ node (c r.0) (c r.1))
