-- How long the clade table of trees of n leaves is at most.
-- Main results: table_length.
use Rattle.std.specs.Prelude.{List, ℕ, ◌-◌, ◌*◌, ◌≤◌, length}
use Rattle.std.proofs.Common.{arith}
use Rattle.rules.specs.Tree.{Tree, LeavesBelow}
use Rattle.rules.specs.declared.Clade.{Clade as Entry}
use Rattle.clade_laws.specs.Entries.{Each, IsTable}
use Rattle.clade_laws.proofs.Entries.{table_counts}
use Rattle.clade_laws.proofs.Totals.{counts_add_up, counts_some}

-- so there are at most as many entries
pub table_length : (n : ℕ) (ts : List Tree) (es : List Entry) → Each (LeavesBelow n) ts → IsTable ts es → length es ≤ length ts * (n - 1)
table_length n ts es L T = omega (arith, counts_add_up n ts es L T, counts_some es (length ts) (table_counts ts es T))
