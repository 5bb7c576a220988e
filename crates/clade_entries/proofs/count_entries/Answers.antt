-- `count_entries` meets its contract: batch by batch.
use Rattle.clade_entries.specs.Next.{counting_start, counting_few, counting_next, counting_end}
use native.Mathlib.Omega.{arith}
use Rattle.clade_entries.proofs.count_entries.Goals as goal

pub loop-total-init : goal.loop-total-init
loop-total-init c = counting_start c.requires.readable c.requires.first c.number_held-total.ensures

pub overflow_add-total : goal.overflow_add-total
overflow_add-total c = record { fits = omega (arith, counting_few (counting_next c.loop-total.invariant c.loop-total-test.true c.load_next.ensures c.number_held-total-in-loop-total.ensures)) }

pub overflow_add-full : goal.overflow_add-full
overflow_add-full c = record { fits = omega (arith, counting_few (counting_next c.loop-total.invariant c.loop-total-test.true c.load_next.ensures c.number_held-total-in-loop-total.ensures)) }

pub loop-total-smaller : goal.loop-total-smaller
loop-total-smaller c = omega (arith, counting_few (counting_next c.loop-total.invariant c.loop-total-test.true c.load_next.ensures c.number_held-total-in-loop-total.ensures))

pub loop-total-preserved : goal.loop-total-preserved
loop-total-preserved c = counting_next c.loop-total.invariant c.loop-total-test.true c.load_next.ensures c.number_held-total-in-loop-total.ensures

pub returns : goal.returns
returns c = counting_end c.loop-total.invariant c.loop-total-test.false
