-- The inner leaf sets of a tree: they are the numbers of its clades of two leaves or more, n-1 of them, pairwise different. Main definitions:
-- TwoOrMore, CladeNumber, Different.
use Rattle.std.specs.Prelude.{◌≡◌, ◌≢◌, ◌⊎◌, Bool, true, false, List, [], ◌∷◌, ℕ}
use Rattle.rules.specs.Building.{member}
use Rattle.rules.specs.Tree.{Tree, leaf, node, Clade}
use Rattle.clade_laws.specs.Numbers.{Stands}

-- a set with two leaves or more
unfoldable pub TwoOrMore : (ℕ → Bool) → Type 0
TwoOrMore c = (x : ℕ) × (y : ℕ) × (x ≢ y) × (c x ≡ true) × (c y ≡ true)

-- m is the number of a clade of t with two leaves or more
unfoldable pub CladeNumber : Tree → ℕ → Type 0
unfolding Clade TwoOrMore Stands
CladeNumber t m = (c : ℕ → Bool) × Clade t c × TwoOrMore c × Stands m c

-- no number twice
unfoldable pub Different : List ℕ → Type 0
unfolding member
Different [] = Unit {0}
Different (m ∷ l) = (member m l ≡ false) × Different l

-- u is a node of t that is a pair
unfoldable pub PairIn : Tree → Tree → Type 0
PairIn u (leaf x) = ⊥
PairIn u (node l r) = (u ≡ node l r) ⊎ (PairIn u l ⊎ PairIn u r)
