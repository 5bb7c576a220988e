-- `children` meets its contract: the first t rows are done, and number has the node of each name.
use Rattle.numbering.specs.Columns.{Columns}
use Rattle.numbering.proofs.children.Given as goal

abbrev pub invariant-loop-t : goal.invariant-loop-t
invariant-loop-t l = Columns l.merges.list l.merges.small l.merges.start l.n l.initial.number l.initial.left l.initial.right l.number l.left l.right l.t
