-- A table that is read: when it is refused with 1, 2, 5, 6 or 7, and what it makes.
-- Main results: no_leaves, too_many_leaves, wrong_rows, row_refused, rows_accepted.
use Rattle.std.specs.Prelude.{List, ◌≢◌, ◌≡◌, ℕ, ◌-◌, ◌*◌, ◌≤◌, ◌<◌, length}
use Rattle.std.proofs.Math.Option.{none, some}
use Rattle.std.proofs.Common.{◌∙◌}
use Rattle.rules.specs.Order.{vector_of}
use Rattle.rules.specs.Table.{Fault, rows_of, table_fault, table_tree}
use Rattle.rules.specs.Answer.{made, refuses}
use Rattle.rules.specs.Guards.{refuse_fault}
use Rattle.rules.specs.CallFromTable.{from_table}
use Rattle.accepting.proofs.Guards.{no_leaf, many_leaves, some_leaves, wrong_length, right_length}

pub no_leaves : (n : ℕ) (xs : List ℕ) → n ≡ 0 → from_table n xs ≡ refuses 1 0
unfolding from_table
no_leaves n xs e = no_leaf n _ e

pub too_many_leaves : (n : ℕ) (xs : List ℕ) → 1024 < n → from_table n xs ≡ refuses 1 0
unfolding from_table
too_many_leaves n xs h = many_leaves n _ h

-- "2 (length not 3(n-1))"
pub wrong_rows : (n : ℕ) (xs : List ℕ) → 1 ≤ n → n ≤ 1024 → length xs ≢ 3 * (n - 1) → from_table n xs ≡ refuses 2 (3 * (n - 1))
unfolding from_table
wrong_rows n xs l h d = some_leaves n _ l h ∙ wrong_length (3 * (n - 1)) (length xs) _ d

-- "rows upward with 5, 6, 7 in each"
pub row_refused : (n : ℕ) (xs : List ℕ) (f : Fault) → 1 ≤ n → n ≤ 1024 → length xs ≡ 3 * (n - 1) → table_fault n (rows_of xs) ≡ some f
    → from_table n xs ≡ refuses f.0 f.1
unfolding from_table refuse_fault
row_refused n xs f l h d e = some_leaves n _ l h ∙ right_length (3 * (n - 1)) (length xs) _ d ∙ rw e

pub rows_accepted : (n : ℕ) (xs : List ℕ) → 1 ≤ n → n ≤ 1024 → length xs ≡ 3 * (n - 1) → table_fault n (rows_of xs) ≡ none
    → from_table n xs ≡ made (vector_of (table_tree n (rows_of xs)))
unfolding from_table refuse_fault
rows_accepted n xs l h d e = some_leaves n _ l h ∙ right_length (3 * (n - 1)) (length xs) _ d ∙ rw e
