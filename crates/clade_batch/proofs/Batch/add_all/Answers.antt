-- `Batch::add_all` meets its contract: the first leaf sets are added.
use Rattle.clade_batch.specs.AddAll.{adding_start, adding_batch, adding_next, adding_end}
use Rattle.clade_batch.proofs.Batch.add_all.Goals as goal

pub loop-set-init : goal.loop-set-init
loop-set-init c = let h = c.requires in adding_start h.0 h.1

pub add_above-requires : goal.add_above-requires
add_above-requires c = adding_batch c.loop-set.invariant

pub loop-set-preserved : goal.loop-set-preserved
loop-set-preserved c = adding_next c.loop-set.invariant c.loop-set-test.true c.add_above.ensures

pub returns : goal.returns
returns c = adding_end c.loop-set.invariant c.loop-set-test.false
