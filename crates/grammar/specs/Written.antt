-- The text of a tree is a text, which reads as the tree with each pair turned so that its smaller least leaf stands first. Main definitions:
-- plain_text, nesting.
use Rattle.std.specs.Prelude.{List, ℕ, ◌+◌, max}
use Rattle.rules.specs.Newick.{digits, pair_text}
use Rattle.rules.specs.Tree.{Tree, leaf, node}

-- the text of a node with its children as they stand
unfoldable pub plain_text : Tree → List ℕ
unfolding digits pair_text
plain_text (leaf x) = digits 4 x
plain_text (node l r) = pair_text (plain_text l) (plain_text r)

-- how deep brackets stand in one another
unfoldable pub nesting : Tree → ℕ
nesting (leaf x) = 0
nesting (node l r) = max (nesting l) (nesting r) + 1
