-- `merged_sets` meets its contract: the first t merges are done.
use Rattle.leaf_sets.specs.Merging.{Merging}
use Rattle.leaf_sets.proofs.merged_sets.Given as goal

abbrev pub invariant-loop-t : goal.invariant-loop-t
invariant-loop-t l = Merging l.merges.list l.merges.small l.merges.start l.n l.initial.clusters l.initial.sets l.clusters l.sets l.t
