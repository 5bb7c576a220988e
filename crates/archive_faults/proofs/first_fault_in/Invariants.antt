-- `archive_faults::first_fault_in` meets its contract: the vectors are searched one by one.
use Rattle.archive_faults.specs.FaultIn.{Searched}
use Rattle.archive_faults.proofs.first_fault_in.Given as goal

abbrev pub invariant-loop-at : goal.invariant-loop-at
invariant-loop-at l = Searched l.n l.entries l.at
