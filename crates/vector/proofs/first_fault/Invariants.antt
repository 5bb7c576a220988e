-- `first_fault` meets its contract: before entry i the loop has met no entry above its bound.
use Rattle.vector.specs.Fault.{Passed}
use Rattle.vector.proofs.first_fault.Given as goal

abbrev pub invariant-loop-i : goal.invariant-loop-i
invariant-loop-i l = Passed l.v l.i
