-- Merge table to vector, the leaf count n beside the numbers: "1, 2 (length not 3(n-1)), rows upward with 5, 6, 7 in each, 3".
-- Main definitions: from_table, from_table_call.
use Rattle.std.specs.Prelude.{List, ℕ, ◌-◌, ◌*◌, length}
use Rattle.rules.specs.Order.{vector_of}
use Rattle.rules.specs.Table.{rows_of, table_fault, table_tree}
use Rattle.rules.specs.Answer.{Made, made}
use Rattle.rules.specs.Guards.{refuse_fault, refuse_count, refuse_length}
use Rattle.rules.specs.Promise.{Call, makes, list}

unfoldable pub from_table : ℕ → List ℕ → Made
unfolding refuse_count refuse_length refuse_fault table_fault rows_of vector_of table_tree
from_table n xs =
    refuse_count n (refuse_length (3 * (n - 1)) (length xs)
    (refuse_fault (table_fault n (rows_of xs)) (made (vector_of (table_tree n (rows_of xs))))))

abbrev pub from_table_call : ℕ → List ℕ → Call (List ℕ) (List ℕ)
from_table_call n xs = makes list (from_table n xs)
