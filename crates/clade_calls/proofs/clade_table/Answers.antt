-- `clade_table` meets its contract: what `Filling` says stands at each turn, and at the last one the table is written or the archive refused.
use Rattle.clade_calls.proofs.Filling as filling
use Rattle.clade_calls.proofs.clade_table.Goals as goal

pub loop-held-init : goal.loop-held-init
loop-held-init c = filling.start _ _ _ _ c.checked-answer.ensures

pub loop-held-preserved : goal.loop-held-preserved
loop-held-preserved c = rw c.entry.ensures
    (filling.next c.loop-held.invariant c.ready.new.held.words (rw c.loop-held-test.true at c.ready.ensures))

pub returns : goal.returns
returns c = filling.ends c.loop-held.invariant c.ready.new.held.words c.finish.result (rw c.loop-held-test.false at c.ready.ensures) c.finish.ensures
