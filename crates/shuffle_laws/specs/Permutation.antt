-- Permutations: a list that has no fault of refusal 11 and n entries has each number below n once. Main definitions: occurs, Permutes.
use Rattle.std.specs.Prelude.{◌≡◌, not, ◌&&◌, List, [], ◌∷◌, ℕ, ◌+◌, ltb, length}
use Rattle.rules.specs.Building.{member}
use Rattle.basics.specs.Sums.{one}
use Rattle.merging.specs.Once.{hit}

-- how often y stands in the list
unfoldable pub occurs : ℕ → List ℕ → ℕ
unfolding hit
occurs y [] = 0
occurs y (x ∷ p) = hit y x + occurs y p

-- n entries, and each number below n once
pub record Permutes (n : ℕ) (p : List ℕ) : Type 0 where
  pub count : length p ≡ n
  pub each : (y : ℕ) → occurs y p ≡ one (ltb y n)

-- whether y is below n and not used, as a number
unfoldable pub room : ℕ → List ℕ → ℕ → ℕ
unfolding one
room n used y = one (ltb y n && not (member y used))
