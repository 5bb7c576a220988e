-- `entry_reader::read_run` meets its contract. The loop keeps `Running`; the measure is the number of entries left.
use mathlib.Core.Path.{◌≡◌}
use Prim.Native.Nat.{◌-◌}
use Rattle.entry_reader.proofs.Reading.{Running}
use Rattle.entry_reader.proofs.read_run.Given as goal

abbrev pub invariant-loop-k : goal.invariant-loop-k
invariant-loop-k l = (l.q.bytes ≡ l.r.bytes) × Running l.q.bytes.now l.r.at l.i l.end l.initial.out l.w l.q.at l.k l.out

abbrev pub decreases-loop-k : goal.decreases-loop-k
decreases-loop-k l = l.end - l.k
