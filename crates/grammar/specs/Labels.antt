-- The labels of a node's bytes are the leaves of its tree from left to right, each at the place of its first byte. Main definitions: leaves_of,
-- LabelledAs.
use Rattle.std.specs.Prelude.{◌≡◌, List, [], ◌∷◌, ◌++◌, map, ℕ}
use Rattle.rules.specs.Names.{Placed}
use Rattle.rules.specs.Newick.{labels_of}
use Rattle.rules.specs.Tree.{Tree, leaf, node}

-- the leaves from left to right
unfoldable pub leaves_of : Tree → List ℕ
leaves_of (leaf x) = x ∷ []
leaves_of (node l r) = leaves_of l ++ leaves_of r

abbrev pub value : Placed → ℕ
value l = l.1

-- the labels of the bytes are the leaves of the tree, from left to right
pub record LabelledAs (s : List ℕ) (t : Tree) : Type 0 where
  pub leaves : map value (labels_of s) ≡ leaves_of t
