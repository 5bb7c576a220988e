-- `add_trees` meets its contract: the first r trees are added.
use Rattle.clade_pass.specs.Pass.{Passing}
use Rattle.clade_pass.proofs.add_trees.Given as goal

abbrev pub invariant-loop-r : goal.invariant-loop-r
invariant-loop-r l = Passing l.trees.archive.now l.trees.n l.trees.count l.size l.bound l.batch.words l.at l.r
