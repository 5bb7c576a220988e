-- `number_leaves` meets its contract: the leaves below c have their numbers.
use Rattle.lists.specs.Leaves.{Leaves}
use Rattle.lists.proofs.number_leaves.Given as goal

abbrev pub invariant-loop-c : goal.invariant-loop-c
invariant-loop-c l = Leaves l.n l.initial.number l.number l.c
