-- `Batch::add_all` meets its contract: the first leaf sets are added.
use Rattle.clade_batch.specs.AddAll.{Adding}
use Rattle.clade_batch.proofs.Batch.add_all.Given as goal

abbrev pub invariant-loop-set : goal.invariant-loop-set
invariant-loop-set l = Adding l.initial.self.words l.sets l.bound l.self.words l.set-index
