-- A tree whose leaves are renamed by a permutation has the leaves 0 to n-1, and its clades are the images of the tree's.
use Rattle.std.specs.Prelude.{◌≡◌, ℕ, ◌≤◌}
use Rattle.rules.specs.Tree.{Tree}
use Rattle.shuffle_laws.specs.Count.{leaf_times}

-- all leaves of the tree are below n
unfoldable pub Within : ℕ → Tree → Type 0
Within n t = (x : ℕ) → n ≤ x → leaf_times x t ≡ 0
