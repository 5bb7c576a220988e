-- Vector to merge table: when it refuses, and that it writes three numbers a row.
-- Main result: lawful_to_table.
use Rattle.std.specs.Prelude.{List, ℕ, ◌-◌, ◌*◌, length}
use Rattle.rules.specs.Table.{table_of}
use Rattle.rules.specs.Promise.{list}
use Rattle.rules.specs.CallToTable.{to_table, to_table_call}
use Rattle.demands.specs.Law.{Lawful}
use Rattle.demands.proofs.Law.{lawful_made}
use Rattle.demands.specs.LawVector.{VectorRefused}
use Rattle.demands.proofs.LawVector.{settled_vector}
use Rattle.demands.proofs.Long.{table_long}

pub lawful_to_table : (v : List ℕ) → Lawful (to_table_call v) (VectorRefused v) (3 * (length v - 1))
unfolding to_table
lawful_to_table v = lawful_made list (to_table v) (VectorRefused v) (3 * (length v - 1)) (settled_vector length v (table_of v) (3 * (length v - 1)) (table_long v))
