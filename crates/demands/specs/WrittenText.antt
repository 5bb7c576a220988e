-- The text that is written of a vector's tree: a text of the grammar, which reads as that tree and has no blank. Main definition: WrittenText.
use Rattle.std.specs.Prelude.{List, ◌≡◌, ℕ}
use Rattle.rules.specs.Tree.{Tree, tree_of}
use Rattle.rules.specs.Newick.{Text}
use Rattle.rules.specs.Sent.{signs}
use Rattle.clades.specs.Form.{Turned}

-- the bytes are a text, which reads as the vector's tree and as no other; and so, in each of its pairs, as Turned says of the tree that is read,
-- "We write the child with the smaller least leaf first"; "The writer still writes none": its signs are all of it
pub record WrittenText (v s : List ℕ) : Type 0 where
  pub reads_as_the_tree : Text s (tree_of v)
  pub as_no_other : (t : Tree) → Text s t → t ≡ tree_of v
  pub smaller_first : Turned (tree_of v)
  pub no_blank : signs s ≡ s
