-- `entry_writer::put_run` meets its contract. The loop keeps `Along`; the measure is the number of entries left.
use native.Mathlib.Omega.{arith}
use Rattle.entry_writer.proofs.Putting.{ahead_start, ahead_end, along_wide, along_fits, along_next}
use Rattle.entry_writer.proofs.put_run.Goals as goal

pub loop-k-init : goal.loop-k-init
loop-k-init c = record { ahead = ahead_start c.requires.0; run = c.requires.1; four = c.requires.1.fours.first; wide = c.field_width-width.ensures }

pub overflow_mul-width : goal.overflow_mul-width
overflow_mul-width c = omega (arith, along_wide c.loop-k.invariant c.loop-k-test.true)

pub four_from-requires : goal.four_from-requires
four_from-requires c =
    let f = along_fits c.loop-k.invariant c.loop-k-test.true in
    (omega (arith, along_wide c.loop-k.invariant c.loop-k-test.true), f.0, f.1)

pub put_bits-q-requires : goal.put_bits-q-requires
put_bits-q-requires c =
    let w = along_wide c.loop-k.invariant c.loop-k-test.true in
    (omega arith, omega arith, c.four_from.ensures.1, (along_fits c.loop-k.invariant c.loop-k-test.true).2)

pub loop-k-preserved : goal.loop-k-preserved
loop-k-preserved c =
    along_next c.loop-k.invariant c.loop-k-test.true c.put_bits-q.result
    (rw c.four_from.ensures.0 at c.put_bits-q.ensures)

pub returns : goal.returns
returns c = ahead_end c.loop-k.invariant.ahead c.loop-k-test.false

-- behind the last four
pub returns-2 : goal.returns-2
returns-2 c =
    let q = c.put_bits-q in
    ahead_end (along_next c.loop-k.invariant c.loop-k-test.true q.result (rw c.four_from.ensures.0 at q.ensures)).ahead (omega arith)
