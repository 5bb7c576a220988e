-- `entry_reader::read_fours` meets its contract. The loop keeps `Onward`; the measure is the number of entries left.
use native.Mathlib.Omega.{arith}
use mathlib.Core.Path.{refl}
use Rattle.runs.proofs.Runs.{fours_on}
use Rattle.entry_reader.proofs.Reading.{onward_start, onward_left, onward_moved, onward_done}
use Rattle.entry_reader.proofs.read_fours.Goals as goal

pub loop-k-init : goal.loop-k-init
loop-k-init c = (refl, onward_start c.requires.0, c.requires.1)

pub run_end-e-requires : goal.run_end-e-requires
run_end-e-requires c = (c.loop-k.invariant.2 c.loop-k-test.true, c.loop-k-test.true, c.loop-k.invariant.1.left.few)

pub read_run-q-requires : goal.read_run-q-requires
read_run-q-requires c =
    let e = c.run_end-e.ensures in
    (onward_left c.loop-k.invariant.1 c.run_end-e.result (omega (arith, e.0)) e.1, e.2)

pub loop-k-preserved : goal.loop-k-preserved
loop-k-preserved c =
    let (same, o, f) = c.loop-k.invariant in
    let e = c.run_end-e.ensures in
    let r = c.read_run-q in
    let (same', o') = onward_moved c.args.r.bytes (same, o) c.run_end-e.result r.new.out (omega (arith, e.0)) e.1 r.auto.out r.ensures in
    (same', o', λ h. fours_on (f c.loop-k-test.true) (omega (arith, e.0)) e.2)

pub returns : goal.returns
returns c = onward_done c.args.r c.loop-k.q c.loop-k.invariant.0 c.loop-k.invariant.1 c.loop-k-test.false
