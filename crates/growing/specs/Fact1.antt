-- Fact 1 of 01: "The order of merges depends on the tree alone: of the pairs whose two clusters are complete, the one whose larger name is greatest
-- comes first." Main definition: after.
use Rattle.std.specs.Prelude.{List, [], ◌∷◌}
use Rattle.rules.specs.Building.{Merge}
use Rattle.rules.specs.Tree.{Tree}
use Rattle.rules.specs.Order.{collapse}

-- the tree after some merges: a leaf is a complete cluster that is not merged yet
unfoldable pub after : List Merge → Tree → Tree
after [] t = t
after (m ∷ ms) t = after ms (collapse m t)
