-- The rows of a table in its numbers. Main definition: row_at.
use Rattle.std.specs.Prelude.{List, ℕ, ◌+◌, ◌*◌, get_or}
use Rattle.rules.specs.Table.{Row}

-- row t of the numbers
unfoldable pub row_at : List ℕ → ℕ → Row
row_at xs t = (get_or xs (3 * t) 0, get_or xs (3 * t + 1) 0, get_or xs (3 * t + 2) 0)
