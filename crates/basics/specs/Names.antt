-- The search for the first name at fault, step by step. Main definition: fault_of.
use Rattle.std.specs.Prelude.{ℕ, ltb}
use Rattle.std.proofs.Math.Bool.{cond}
use Rattle.rules.specs.Names.{NameFault, not_below, used_before}

-- which fault a name has that is at fault
unfoldable pub fault_of : ℕ → ℕ → NameFault
fault_of n x = cond (ltb x n) used_before not_below
