-- `entry_writer::put_singles` meets its contract. The loop keeps `Ahead`.
use Rattle.entry_writer.proofs.Putting.{Ahead}
use Rattle.entry_writer.proofs.put_singles.Given as goal

abbrev pub invariant-loop-k : goal.invariant-loop-k
invariant-loop-k l = Ahead l.v l.i l.end l.initial.q l.q l.k
