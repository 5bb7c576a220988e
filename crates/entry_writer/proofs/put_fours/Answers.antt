-- `entry_writer::put_fours` meets its contract. The loop keeps `Ahead`; the measure is the number of entries left.
use native.Mathlib.Omega.{arith}
use Rattle.runs.proofs.Runs.{fours_on}
use Rattle.entry_writer.proofs.Putting.{ahead_start, ahead_due, ahead_more, ahead_end}
use Rattle.entry_writer.proofs.put_fours.Goals as goal

pub loop-k-init : goal.loop-k-init
loop-k-init c = (ahead_start c.requires.0, c.requires.1)

pub run_end-e-requires : goal.run_end-e-requires
run_end-e-requires c = (c.loop-k.invariant.1 c.loop-k-test.true, c.loop-k-test.true, omega (arith, c.loop-k.invariant.0.due.whole, c.loop-k.invariant.0.due.few))

pub put_run-q-requires : goal.put_run-q-requires
put_run-q-requires c =
    let e = c.run_end-e.ensures in
    (ahead_due c.loop-k.invariant.0 _ (omega (arith, e.0)) e.1, e.2)

pub loop-k-smaller : goal.loop-k-smaller
loop-k-smaller c = omega (arith, c.run_end-e.ensures.0, c.loop-k-test.true)

pub loop-k-preserved : goal.loop-k-preserved
loop-k-preserved c =
    let e = c.run_end-e.ensures in
    let r = c.put_run-q in (
      ahead_more c.loop-k.invariant.0 _ r.result (omega (arith, e.0)) e.1 r.ensures,
      λ h. fours_on (c.loop-k.invariant.1 c.loop-k-test.true) (omega (arith, e.0)) e.2,
    )

pub returns : goal.returns
returns c = ahead_end c.loop-k.invariant.0 c.loop-k-test.false
