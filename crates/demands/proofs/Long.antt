-- How many elements a call writes.
-- Main results: table_long, vector_long, new_long, renamed_long.
use Rattle.std.specs.Prelude.{List, ◌≡◌, refl, ℕ, ◌+◌, ◌-◌, ◌*◌, length}
use Rattle.std.proofs.Common.{ap, ap₂, ◌∙◌}
use Rattle.rules.specs.Vector.{Valid}
use Rattle.rules.specs.Building.{merges}
use Rattle.rules.specs.Tree.{Tree, leaf, node, size, tree_of}
use Rattle.rules.specs.Order.{vector_of}
use Rattle.rules.specs.Table.{table_rows, table_of}
use Rattle.rules.specs.Shuffle.{renamed, new_of}
use Rattle.basics.proofs.Listed.{length_listed}
use Rattle.building.proofs.Built.{merges_length}
use Rattle.written_tables.proofs.Rows.{table_length}
use Rattle.laws.proofs.TreeOf.{tree_size}

-- a row for each merge, three numbers for each row
pub table_long : (v : List ℕ) → Valid v → length (table_of v) ≡ 3 * (length v - 1)
unfolding table_of table_rows
table_long v ok =
    table_length (length v) (λ c. c) (merges v) ∙ ap (λ (k : ℕ). 3 * k) (merges_length v ok)

-- the vector of a tree has an entry for each leaf, and new a label for each
pub vector_long : (t : Tree) → length (vector_of t) ≡ size t
unfolding vector_of
vector_long t = length_listed (size t) _

pub new_long : (t : Tree) → length (new_of t) ≡ size t
unfolding new_of
new_long t = length_listed (size t) _

renamed_size : (p : List ℕ) (t : Tree) → size (renamed p t) ≡ size t
unfolding renamed size
renamed_size p (leaf x) = refl
renamed_size p (node l r) = ap₂ ◌+◌ (renamed_size p l) (renamed_size p r)

pub renamed_long : (p v : List ℕ) → Valid v → length (vector_of (renamed p (tree_of v))) ≡ length v
renamed_long p v ok = vector_long (renamed p (tree_of v)) ∙ renamed_size p (tree_of v) ∙ tree_size v ok
