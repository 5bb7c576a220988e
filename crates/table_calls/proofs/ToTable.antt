-- What to_table makes of an accepted vector.
-- Main results: table_made, table_count.
use mathlib.Core.List.{List}
use mathlib.Core.Path.{◌≡◌, sym, ap, ◌∙◌}
use Prim.Native.Nat.{ℕ, ◌-◌, ◌*◌}
use lib.ListN.{length}
use Rattle.rules.specs.Table.{table_of, flat, rows_from}
use Rattle.rules.specs.Answer.{made}
use Rattle.rules.specs.CallToTable.{to_table}
use Rattle.merging.specs.Insertion.{pairs}
use Rattle.building.proofs.Built.{merges_are_pairs, merges_length}
use Rattle.written_tables.proofs.Rows.{table_length}
use Rattle.accepting.proofs.FromVector.{vector_accepted}
use Rattle.rules.specs.Vector.{Vector}

pub table_made : (v : List ℕ) → Vector v → to_table v ≡ made (flat (rows_from (length v) (λ c. c) (pairs v)))
unfolding to_table
table_made v S = vector_accepted v (made (table_of v)) S ∙ ap (λ P. made (flat (rows_from (length v) (λ c. c) P))) (merges_are_pairs v S.valid)

pub table_count : (v : List ℕ) → Vector v → length (flat (rows_from (length v) (λ c. c) (pairs v))) ≡ 3 * (length v - 1)
table_count v S =
    table_length (length v) (λ c. c) (pairs v)
    ∙ ap (λ k. 3 * k) (ap length (sym (merges_are_pairs v S.valid)) ∙ merges_length v S.valid)
