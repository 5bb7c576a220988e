-- One to one: valid vectors and rooted binary trees with leaves 0 to n-1, up to turning pairs round.
use Rattle.std.specs.Prelude.{List, ◌≡◌, ℕ, length}
use Rattle.rules.specs.Vector.{Valid}
use Rattle.rules.specs.Tree.{Tree, tree_of, SameClades}

-- What a tree's vector is: valid, with an entry for each leaf, and its tree has the given clades.
pub record VectorOf (n : ℕ) (t : Tree) (v : List ℕ) : Type 0 where
  pub valid : Valid v
  pub entries : length v ≡ n
  pub clades : SameClades (tree_of v) t
