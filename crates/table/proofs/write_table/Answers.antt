-- `write_table` meets its contract: the children of the rows of v, copied out as rows.
use mathlib.Core.Path.{◌∙◌}
use Rattle.table.specs.Written.{rows_of_children}
use Rattle.table.proofs.write_table.Goals as goal

pub returns : goal.returns
returns c = let made = c.rows_of.ensures in
    c.copy_rows.ensures ∙ rw (rows_of_children _ _ _ _ _ made.left_after made.right_after)
