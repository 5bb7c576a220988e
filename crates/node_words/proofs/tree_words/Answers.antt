use borrow.Author.Rules.{rules}
use Rattle.numbering.specs.Numbered.{before_rows}
use Rattle.node_words.specs.Paired.{vector_paired}
use Rattle.node_words.proofs.tree_words.Goals as goal

pub pair_words-requires : goal.pair_words-requires
pair_words-requires c = (before_rows c.requires c.fill.ensures (search rules) c.number_leaves.ensures, c.leaf_words.ensures)

pub returns : goal.returns
returns c = vector_paired _ _ _ _ _ c.fill.ensures.listed c.pair_words.ensures
