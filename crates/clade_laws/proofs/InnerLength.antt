-- How many clades of two leaves or more a tree of leaves below n has.
-- Main results: inner_length_below.
use Rattle.std.specs.Prelude.{◌≡◌, ℕ, ◌-◌, length}
use Rattle.std.proofs.Common.{arith}
use Rattle.rules.specs.Tree.{Tree, LeavesBelow}
use Rattle.rules.specs.CladeTable.{inner}
use Rattle.clades.proofs.Size.{size_below}
use Rattle.clade_laws.proofs.Inner.{inner_length}

pub inner_length_below : (n : ℕ) (t : Tree) → LeavesBelow n t → length (inner t) ≡ n - 1
inner_length_below n t L = omega (arith, inner_length t, size_below n t L)
