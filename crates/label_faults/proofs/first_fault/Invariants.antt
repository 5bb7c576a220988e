use Rattle.label_faults.specs.Looking.{Looking}
use Rattle.label_faults.proofs.first_fault.Given as goal

abbrev pub invariant-loop-at : goal.invariant-loop-at
invariant-loop-at l = Looking l.s l.n l.used l.at l.label
