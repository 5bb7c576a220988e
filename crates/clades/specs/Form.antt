-- The form of a tree: each pair turned so that the smaller least leaf stands first. Clades fix a tree up to turning pairs. Main definitions: join,
-- form, Turned.
use Rattle.std.specs.Prelude.{cond, ◌<◌, ltb}
use Rattle.rules.specs.Tree.{Tree, leaf, node, least}

-- the part with the smaller least leaf first
unfoldable pub join : Tree → Tree → Tree
unfolding least
join l r = cond (ltb (least l) (least r)) (node l r) (node r l)

unfoldable pub form : Tree → Tree
unfolding join
form (leaf x) = leaf x
form (node l r) = join (form l) (form r)

-- in each pair "the child with the smaller least leaf first"
unfoldable pub Turned : Tree → Type 0
unfolding least
Turned (leaf x) = Unit {0}
Turned (node l r) = (least l < least r) × Turned l × Turned r
