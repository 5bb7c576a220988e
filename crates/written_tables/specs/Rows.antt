-- The rows of merges: a row for each, whose parents count up. Main definitions: first, second, vector_rows, renumber, Inside.
use Rattle.std.specs.Prelude.{cond, List, [], ◌∷◌, ℕ, ◌<◌, eqb, length}
use Rattle.rules.specs.Building.{Merge}
use Rattle.rules.specs.Table.{Row, rows_from}
use Rattle.merging.specs.Insertion.{pairs}

-- the children of a row
abbrev pub first : Row → ℕ
first r = r.0

abbrev pub second : Row → ℕ
second r = r.1

-- the rows of a vector
abbrev pub vector_rows : List ℕ → List Row
vector_rows v = rows_from (length v) (λ c. c) (pairs v)

-- the numbers of the clusters after a merge that keeps the name a and makes the node p
abbrev pub renumber : (ℕ → ℕ) → ℕ → ℕ → ℕ → ℕ
renumber number a p c = cond (eqb c a) p (number c)

-- both names of each merge are below n
unfoldable pub Inside : ℕ → List Merge → Type 0
Inside n [] = Unit {0}
Inside n (m ∷ P) = (m.0 < n) × (m.1 < n) × Inside n P
