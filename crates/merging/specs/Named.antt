-- The names that a list of merges, read backwards, has brought in: each merge takes a cluster that is there into another. Main definitions: named,
-- Good, Rising.
use Rattle.std.specs.Prelude.{◌≡◌, Bool, true, false, ◌||◌, List, [], ◌∷◌, ℕ, ◌<◌, eqb}
use Rattle.rules.specs.Building.{Merge}

unfoldable pub named : List Merge → ℕ → Bool
named [] x = eqb 0 x
named (m ∷ P) x = named P x || eqb m.1 x

-- each merge takes a cluster that is there into another
unfoldable pub Good : List Merge → Type 0
unfolding named
Good [] = Unit {0}
Good (m ∷ P) = (named P m.0 ≡ true) × (named P m.1 ≡ false) × Good P

-- the smaller name first
unfoldable pub Rising : List Merge → Type 0
Rising [] = Unit {0}
Rising (m ∷ P) = (m.0 < m.1) × Rising P
