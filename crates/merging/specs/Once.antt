-- Each larger name occurs once among the merges of a vector; the last leaf's entry, and the merges without it, are read off the merges. Main
-- definitions: times, place, entry_in, without.
use Rattle.std.specs.Prelude.{cond, List, [], ◌∷◌, ℕ, suc, ◌+◌, eqb}
use Rattle.rules.specs.Building.{Merge}

unfoldable pub hit : ℕ → ℕ → ℕ
hit i j = cond (eqb i j) 1 0

-- how often i is the second of a pair
unfoldable pub times : ℕ → List Merge → ℕ
unfolding hit
times i [] = 0
times i (m ∷ P) = hit i m.1 + times i P

-- how many merges stand before the one of n
unfoldable pub place : ℕ → List Merge → ℕ
place n [] = 0
place n (m ∷ P) = cond (eqb n m.1) 0 (suc (place n P))

-- the entry of the last leaf n, from the merges
unfoldable pub entry_in : ℕ → List Merge → ℕ
unfolding place
entry_in n [] = 0
entry_in n (m ∷ P) = cond (eqb n m.1) m.0 (n + place n P)

-- the merges without the one of n
unfoldable pub without : ℕ → List Merge → List Merge
without n [] = []
without n (m ∷ P) = cond (eqb n m.1) P (m ∷ without n P)
