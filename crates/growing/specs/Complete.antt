-- Fact 1 of 01 over the clusters that the merges build: after each number of merges, of the pairs of the whole tree whose two clusters are there, the
-- one whose larger name is greatest is merged next. Main definition: Complete.
use Rattle.std.specs.Prelude.{◌≡◌, List}
use Rattle.rules.specs.Building.{Merge}
use Rattle.rules.specs.Tree.{leaf, node, grown}
use Rattle.merging.specs.Once.{times}
use Rattle.growing.specs.Part.{Part}

-- after the merges Q, of the tree that the merges P build: p is one of its pairs, both its clusters are there and neither is merged away
pub record Complete (Q P : List Merge) (p : Merge) : Type 0 where
  pub pair : Part (node (grown Q leaf p.0) (grown Q leaf p.1)) (grown P leaf 0)
  pub smaller : times p.0 Q ≡ 0
  pub larger : times p.1 Q ≡ 0
