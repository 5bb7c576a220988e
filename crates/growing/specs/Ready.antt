-- The pairs of a tree whose two clusters are complete, and the best of them. Main definitions: Ready, Greatest.
use Rattle.std.specs.Prelude.{◌≡◌, ◌⊎◌, ◌<◌}
use Rattle.std.proofs.Math.Option.{some}
use Rattle.rules.specs.Building.{Merge}
use Rattle.rules.specs.Tree.{Tree, leaf, node}
use Rattle.rules.specs.Order.{ready}

-- m is the merge of some node of the tree whose two parts are complete
unfoldable pub Ready : Merge → Tree → Type 0
unfolding ready
Ready m (leaf x) = ⊥
Ready m (node l r) = (ready l r ≡ some m) ⊎ (Ready m l ⊎ Ready m r)

-- "the one whose larger name is greatest" of those that satisfy a property: every other one has a smaller larger name
pub record Greatest (Q : Merge → Type 0) (m : Merge) : Type 0 where
  pub is_one : Q m
  pub others_below : (p : Merge) → Q p → (p ≡ m) ⊎ (p.1 < m.1)

-- a pair of leaves, the one way round or the other
unfoldable pub Sides : Merge → Tree → Tree → Type 0
Sides m l r = ((l ≡ leaf m.0) × (r ≡ leaf m.1)) ⊎ ((l ≡ leaf m.1) × (r ≡ leaf m.0))
