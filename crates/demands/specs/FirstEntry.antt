-- The writer's 4: the first index in its list at which an entry is above its bound, where entry i of the list is entry i % n of its tree. Main
-- definition: AboveInTree.
use Rattle.std.specs.Prelude.{List, ℕ, ◌%◌, ◌<◌, length}
use Rattle.rules.specs.Vector.{entry, bound}

-- entry i of the list is above the bound of its number in its tree
abbrev pub AboveInTree : ℕ → List ℕ → ℕ → Type 0
AboveInTree n xs i = (i < length xs) × (bound (i % n) < entry xs i)
