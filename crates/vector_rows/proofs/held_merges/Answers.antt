-- `held_merges` meets its contract: the merges of v, with each leaf as its own node.
use Rattle.numbering.specs.Numbered.{before_rows, rows_of_merges}
use borrow.Author.Rules.{rules}
use Rattle.vector_rows.proofs.held_merges.Goals as goal

pub returns : goal.returns
returns c = (before_rows c.requires.0 c.fill.ensures (search rules) c.number_leaves.ensures, rows_of_merges c.fill.ensures)
