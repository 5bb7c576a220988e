-- A list of merges without that of leaf n: what it keeps, the greedy order too where that merge stood right behind one with its smaller name.
use Rattle.std.specs.Prelude.{◌≡◌, true, List, ℕ, ◌<◌}
use Rattle.rules.specs.Building.{Merge}
use Rattle.merging.specs.Greedy.{free}

-- of the merges below n, all that are free after Q' are free after Q
unfoldable pub Freer : ℕ → List Merge → List Merge → Type 0
Freer n Q Q' = (p : Merge) → p.0 < n → p.1 < n → free Q' p ≡ true → free Q p ≡ true
