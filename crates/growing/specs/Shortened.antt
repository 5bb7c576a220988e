-- Merges without the one of the greatest leaf build the tree without that leaf; so does a vector cut short. Main definition: keep_below.
use Rattle.std.specs.Prelude.{Bool, ℕ, ltb}

-- the leaves below n
unfoldable pub keep_below : ℕ → ℕ → Bool
keep_below n x = ltb x n
