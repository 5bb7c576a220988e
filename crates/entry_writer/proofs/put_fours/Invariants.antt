-- `entry_writer::put_fours` meets its contract. The loop keeps `Ahead`; the measure is the number of entries left.
use Prim.Native.Nat.{◌-◌, ◌<◌}
use Rattle.runs.specs.Runs.{Fours}
use Rattle.entry_writer.proofs.Putting.{Ahead}
use Rattle.entry_writer.proofs.put_fours.Given as goal

abbrev pub invariant-loop-k : goal.invariant-loop-k
invariant-loop-k l = Ahead l.v l.i l.end l.initial.q l.q l.k × (l.k < l.end → Fours l.k l.end)

abbrev pub decreases-loop-k : goal.decreases-loop-k
decreases-loop-k l = l.end - l.k
