-- n labels among which each of 0 to n-1 stands have no fault: there is no room for another.
use Rattle.std.specs.Prelude.{◌≡◌, true, cond, List, [], ◌∷◌, ℕ, ◌<◌, eqb}
use Rattle.rules.specs.Building.{member}

-- each of 0 to n-1 stands in a list
abbrev pub Covers : ℕ → List ℕ → Type 0
Covers n l = (x : ℕ) → x < n → member x l ≡ true

unfoldable pub without : ℕ → List ℕ → List ℕ
without x [] = []
without x (y ∷ l) = cond (eqb x y) (without x l) (y ∷ without x l)
