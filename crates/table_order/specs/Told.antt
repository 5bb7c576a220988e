-- What reading a table tells: the row that is refused and why, or the vector.
-- Main definition: Told. Main results: drawn, some_drawn.
use Rattle.std.specs.Prelude.{◌≡◌, List, ◌++◌, ℕ, ◌≤◌, drop}
use Rattle.std.specs.declared.result.Result.{Result}
use Rattle.std.proofs.Math.Option.{none}
use Rattle.rules.specs.Tree.{Tree}
use Rattle.rules.specs.Order.{vector_of}
use Rattle.rules.specs.Table.{rows_of, table_fault, table_tree}
use Rattle.chains.specs.Built.{built_end}
use Rattle.chains.specs.Drawn.{Drawn}
use Rattle.row_checks.specs.declared.RowFault.{RowFault}
use Rattle.reading.specs.Reading.{AllRead}
use Rattle.reading.specs.Told.{Finds}

-- of accepted rows the vector is made
abbrev pub Told : ℕ → List ℕ → List ℕ → List ℕ → Result (Unit {0}) RowFault → Type 0
Told n xs old vector r = Finds n xs ((table_fault n (rows_of xs) ≡ none) × (vector ≡ vector_of (table_tree n (rows_of xs)) ++ drop n old)) r

-- the arrays of all rows draw the table's tree
pub drawn : {n : ℕ} {xs names lows small next last : List ℕ} → AllRead n xs names lows small next last → 1 ≤ n → Drawn n (table_tree n (rows_of xs)) small next last
drawn A h = built_end A.built A.count h

pub some_drawn : {n : ℕ} {xs names lows small next last : List ℕ} → AllRead n xs names lows small next last → 1 ≤ n → (t : Tree) × Drawn n t small next last
some_drawn {n} {xs} A h = (table_tree n (rows_of xs), drawn A h)
