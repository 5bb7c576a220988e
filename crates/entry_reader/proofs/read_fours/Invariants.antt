-- `entry_reader::read_fours` meets its contract. The loop keeps `Onward`; the measure is the number of entries left.
use mathlib.Core.Path.{◌≡◌}
use Prim.Native.Nat.{◌-◌, ◌<◌}
use Rattle.runs.specs.Runs.{Fours}
use Rattle.entry_reader.proofs.Reading.{Onward}
use Rattle.entry_reader.proofs.read_fours.Given as goal

abbrev pub invariant-loop-k : goal.invariant-loop-k
invariant-loop-k l = (l.q.bytes ≡ l.r.bytes) × Onward l.q.bytes.now l.r.at l.i l.end 48 l.initial.out l.q.at l.k l.out × (l.k < l.end → Fours l.k l.end)

abbrev pub decreases-loop-k : goal.decreases-loop-k
decreases-loop-k l = l.end - l.k
