-- CR 4 over the public promise: what the answer about a clade table says, and what the lent list then holds. Main definition: DifferentClades.
use Rattle.std.specs.Prelude.{true, ◌↔◌, ◌≡◌, ℕ, ◌<◌}
use mathlib.Core.List.{List}
use Rattle.rules.specs.Building.{member}
use Rattle.rules.specs.Archive.{trees_in}
use Rattle.clade_laws.specs.Rising.{Rises}
use Rattle.clade_demands.specs.Occurs.{HasClade}

-- the different clades of two leaves or more of an archive's trees, by their numbers, each once
abbrev pub DifferentClades : List ℕ → List ℕ → Type 0
DifferentClades s l = Rises l × ((m : ℕ) → (member m l ≡ true) ↔ ((r : ℕ) × (r < trees_in s) × HasClade s m r))
