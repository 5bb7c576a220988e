-- The rows of a table with renamed leaves. Main definitions: renamed_child, renamed_row, renamed_rows.
use Rattle.std.specs.Prelude.{cond, ℕ, ltb}
use mathlib.Core.List.{List, map}
use Rattle.rules.specs.Vector.{entry}
use Rattle.rules.specs.Table.{Row}

-- "leaf x becoming p(x)", by node numbers: a leaf is below n, and other nodes stay
unfoldable pub renamed_child : ℕ → List ℕ → ℕ → ℕ
unfolding entry
renamed_child n p c = cond (ltb c n) (entry p c) c

unfoldable pub renamed_row : ℕ → List ℕ → Row → Row
unfolding renamed_child
renamed_row n p r = (renamed_child n p r.0, renamed_child n p r.1, r.2)

unfoldable pub renamed_rows : ℕ → List ℕ → List Row → List Row
unfolding renamed_row
renamed_rows n p rs = map (renamed_row n p) rs
