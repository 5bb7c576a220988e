-- A vector cut short: it is valid, and its merges are those of the whole vector whose larger name is left. Main definition: only_below.
use Rattle.std.specs.Prelude.{cond, List, [], ◌∷◌, ℕ, ltb}
use Rattle.rules.specs.Building.{Merge}

-- the merges whose larger name is below n
unfoldable pub only_below : ℕ → List Merge → List Merge
only_below n [] = []
only_below n (m ∷ P) = cond (ltb m.1 n) (m ∷ only_below n P) (only_below n P)
