-- The nodes of rows whose parents count up: each is the pair of its row's children. Main definitions: CountUp, noded, Stands.
use Rattle.std.specs.Prelude.{◌≡◌, cond, List, [], ◌∷◌, ℕ, ◌+◌, ◌<◌, eqb}
use Rattle.rules.specs.Tree.{node, Clusters}
use Rattle.rules.specs.Table.{Row}

-- the parents are p, p + 1, ..
unfoldable pub CountUp : ℕ → List Row → Type 0
CountUp p [] = Unit {0}
CountUp p (r ∷ rs) = (r.2 ≡ p) × CountUp (p + 1) rs

-- the nodes after one row more
abbrev pub noded : Clusters → Row → Clusters
noded c r = λ k. cond (eqb k r.2) (node (c r.0) (c r.1)) (c k)

-- and the children of each row stand before its node
unfoldable pub Stands : ℕ → List Row → Type 0
Stands p [] = Unit {0}
Stands p (r ∷ rs) = (r.2 ≡ p) × (r.0 < p) × (r.1 < p) × Stands (p + 1) rs
