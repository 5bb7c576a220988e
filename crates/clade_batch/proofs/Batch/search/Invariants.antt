-- `Batch::search` meets its contract: the place is between lo and hi.
use Prim.Native.Nat.{◌-◌}
use Rattle.clade_batch.specs.Place.{Bracket}
use Rattle.clade_batch.proofs.Batch.search.Given as goal

abbrev pub invariant-loop-lo : goal.invariant-loop-lo
invariant-loop-lo l = Bracket l.self.words l.k l.leaves l.lo l.hi

abbrev pub decreases-loop-lo : goal.decreases-loop-lo
decreases-loop-lo l = l.hi - l.lo
