-- `entry_writer::put_run` meets its contract. The loop keeps `Along`; the measure is the number of entries left.
use Prim.Native.Nat.{◌-◌}
use Rattle.entry_writer.proofs.Putting.{Along}
use Rattle.entry_writer.proofs.put_run.Given as goal

abbrev pub invariant-loop-k : goal.invariant-loop-k
invariant-loop-k l = Along l.v l.i l.end l.width l.initial.q l.q l.k

abbrev pub decreases-loop-k : goal.decreases-loop-k
decreases-loop-k l = l.end - l.k
