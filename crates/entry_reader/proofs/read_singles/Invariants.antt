-- `entry_reader::read_singles` meets its contract. The loop keeps `Onward`.
use mathlib.Core.Path.{◌≡◌}
use Rattle.entry_reader.proofs.Reading.{Onward}
use Rattle.entry_reader.proofs.read_singles.Given as goal

abbrev pub invariant-loop-k : goal.invariant-loop-k
invariant-loop-k l = (l.q.bytes ≡ l.r.bytes) × Onward l.q.bytes.now l.r.at l.i l.end 0 l.initial.out l.q.at l.k l.out
