-- `entry_reader::read_run` meets its contract. The loop keeps `Running`; the measure is the number of entries left.
use native.Mathlib.Omega.{arith}
use mathlib.Core.Path.{refl}
use Rattle.entry_reader.proofs.Reading.{onward_start, running_fits, running_next, onward_done}
use Rattle.entry_reader.proofs.read_run.Goals as goal

pub loop-k-init : goal.loop-k-init
loop-k-init c =
    (refl, record { onward = onward_start c.requires.0; run = c.requires.1; four = c.requires.1.fours.first; wide = c.field_width-w.ensures })

pub next_four-q-requires : goal.next_four-q-requires
next_four-q-requires c = running_fits c.loop-k.invariant.1 c.loop-k-test.true

pub loop-k-preserved : goal.loop-k-preserved
loop-k-preserved c =
    let e = c.next_four-q.ensures in
    rw e.0 (c.loop-k.invariant.0, running_next c.loop-k.invariant.1 c.loop-k-test.true c.next_four-q.new.out c.next_four-q.auto.out e.1)

-- behind the last four
pub returns-2 : goal.returns-2
returns-2 c =
    let e = c.next_four-q.ensures in
    let next = running_next c.loop-k.invariant.1 c.loop-k-test.true c.next_four-q.new.out c.next_four-q.auto.out e.1 in
    rw e.0 (onward_done c.args.r _ c.loop-k.invariant.0 next.onward (omega arith))

pub returns : goal.returns
returns c = onward_done c.args.r c.loop-k.q c.loop-k.invariant.0 c.loop-k.invariant.1.onward c.loop-k-test.false
