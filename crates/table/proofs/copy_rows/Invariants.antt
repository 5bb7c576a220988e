-- `copy_rows` meets its contract: the first t rows are written.
use Rattle.table.specs.Written.{Written}
use Rattle.table.proofs.copy_rows.Given as goal

abbrev pub invariant-loop-t : goal.invariant-loop-t
invariant-loop-t l = Written l.n l.left l.right l.initial.out l.out l.parent l.t
