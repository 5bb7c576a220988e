-- What from_table makes of accepted rows.
-- Main results: vector_count, read_front.
use mathlib.Core.List.{List, ◌++◌}
use mathlib.Core.Option.{none}
use mathlib.Core.Path.{◌≡◌, ap, ◌∙◌}
use Prim.Native.Nat.{ℕ, ◌-◌, ◌*◌, ◌≤◌}
use lib.ListN.{length, take}
use lib.Seq.{take_at}
use Rattle.rules.specs.Order.{vector_of}
use Rattle.rules.specs.Table.{rows_of, table_fault, table_tree}
use Rattle.read_tables.proofs.Forest.{rows_make_a_tree}
use Rattle.laws.proofs.OneToOne.{every_tree}
use Rattle.written_tables.proofs.Flat.{rows_of_length}

-- the vector of accepted rows has an entry for each leaf
pub vector_count : (n : ℕ) (xs : List ℕ) → 1 ≤ n → length xs ≡ 3 * (n - 1) → table_fault n (rows_of xs) ≡ none → length (vector_of (table_tree n (rows_of xs))) ≡ n
vector_count n xs h e f =
    (every_tree n (table_tree n (rows_of xs)) (rows_make_a_tree n (rows_of xs) f (rows_of_length (n - 1) xs e) h)).entries

-- the vector at the front of the array that was read into
pub read_front : (n : ℕ) (xs vector rest : List ℕ) → vector ≡ vector_of (table_tree n (rows_of xs)) ++ rest → length (vector_of (table_tree n (rows_of xs))) ≡ n
    → take n vector ≡ vector_of (table_tree n (rows_of xs))
read_front n xs vector rest e l = ap (take n) e ∙ take_at (vector_of (table_tree n (rows_of xs))) rest n l
