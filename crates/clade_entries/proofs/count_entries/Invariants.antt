-- `count_entries` meets its contract: batch by batch.
use Prim.Native.Nat.{◌-◌}
use Rattle.clade_entries.specs.Next.{Counting}
use Rattle.clade_entries.proofs.count_entries.Given as goal

abbrev pub invariant-loop-total : goal.invariant-loop-total
invariant-loop-total l = Counting l.trees.archive.now l.trees.n l.trees.count l.batch.words l.total l.full

abbrev pub decreases-loop-total : goal.decreases-loop-total
decreases-loop-total l = 132132801 - l.full
