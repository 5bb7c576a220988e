-- `leaf_bits` meets its contract: the first x leaves have their bits.
use mathlib.Core.Path.{◌≡◌}
use Prim.Native.Nat.{◌≤◌}
use lib.ListN.{length}
use Rattle.leaf_sets.specs.Bits.{Bits}
use Rattle.leaf_sets.proofs.leaf_bits.Given as goal

abbrev pub invariant-loop-x : goal.invariant-loop-x
invariant-loop-x l = (l.x ≤ 64) × (length l.bits ≡ 64) × Bits l.x l.bits
