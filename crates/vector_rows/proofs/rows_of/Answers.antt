-- `rows_of` meets its contract: the children of the rows of the merges that are held.
use mathlib.Core.Path.{◌∙◌}
use Rattle.vector_rows.proofs.rows_of.Goals as goal

pub returns : goal.returns
returns c = let held = c.held_merges.ensures in
    let written = c.children.ensures in record { left_after = written.left_after ∙ rw held.1; right_after = written.right_after ∙ rw held.1 }
