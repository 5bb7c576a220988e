use borrow.Author.Tests.{eqb-true, eqb-false}
use Rattle.label_faults.specs.Marks.{counted_start, counted_next, counted_end}
use Rattle.label_faults.proofs.each_once.Goals as goal

pub loop-i-init : goal.loop-i-init
loop-i-init c = counted_start c.requires c.told-m

pub loop-i-preserved : goal.loop-i-preserved
loop-i-preserved c = counted_next c.loop-i.invariant c.loop-i-test.true c.absent-missing.ensures

pub returns : goal.returns
returns c = counted_end c.loop-i.invariant c.loop-i-test.false _ (eqb-true _ _, eqb-false _ _)
