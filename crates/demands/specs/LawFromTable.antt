-- Merge table to vector: when it refuses, and that it writes n elements. Main definition: TableRefused.
use Rattle.std.specs.Prelude.{List, ◌≢◌, ◌≡◌, ℕ, ◌-◌, ◌*◌, length}
use Rattle.rules.specs.Table.{rows_of}
use Rattle.demands.specs.Conditions.{CountWrong, CountRight, FirstRow}

-- "Table: 1, 2 (length not 3(n-1)), rows upward with 5, 6, 7 in each"
pub data TableRefused (n : ℕ) (xs : List ℕ) : ℕ → ℕ → Type 0 where
  table_1 : CountWrong n → TableRefused n xs 1 0
  table_2 : CountRight n → length xs ≢ 3 * (n - 1) → TableRefused n xs 2 (3 * (n - 1))
  table_row : {number t : ℕ} → CountRight n → length xs ≡ 3 * (n - 1) → FirstRow n (rows_of xs) number t → TableRefused n xs number t
