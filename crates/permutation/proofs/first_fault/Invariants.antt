-- `permutation::first_fault` meets its contract. The loop's invariant is Search: the values before index i have no fault.
use Rattle.permutation.specs.Marks.{Search}
use Rattle.permutation.proofs.first_fault.Given as goal

abbrev pub invariant-loop-i : goal.invariant-loop-i
invariant-loop-i l = Search l.n l.p l.flags l.i
