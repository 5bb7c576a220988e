-- `copy_rows` meets its contract: the first t rows are written.
use Rattle.table.specs.Written.{written_start, written_next, written_end}
use Rattle.table.proofs.copy_rows.Goals as goal

pub loop-t-init : goal.loop-t-init
loop-t-init c = written_start c.requires

pub loop-t-preserved : goal.loop-t-preserved
loop-t-preserved c = written_next c.loop-t.invariant c.loop-t-test.true

pub returns : goal.returns
returns c = written_end c.loop-t.invariant c.loop-t-test.false
