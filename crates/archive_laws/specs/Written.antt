-- An archive that was written is read: each tree, each record, the header and the length. Main definition: Trees.
use Rattle.std.specs.Prelude.{◌≡◌, List, [], ◌∷◌, ◌++◌, ℕ, length}
use Rattle.rules.specs.Vector.{Valid}

-- valid vectors of n entries
unfoldable pub Trees : ℕ → List (List ℕ) → Type 0
Trees n [] = Unit {0}
Trees n (v ∷ vs) = Valid v × (length v ≡ n) × Trees n vs

-- lists one after another in one list
unfoldable pub joined : List (List ℕ) → List ℕ
joined [] = []
joined (v ∷ vs) = v ++ joined vs
