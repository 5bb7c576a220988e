use Rattle.pair_children.proofs.Numbering.{Numbering}
use Rattle.pair_children.proofs.numbered_children.Given as goal

abbrev pub invariant-loop-k : goal.invariant-loop-k
invariant-loop-k l = Numbering l.pairs l.n l.initial.left l.left l.initial.right l.right l.k
