use lib.ListN.{length-take}
use native.Mathlib.Omega.{arith}
use Rattle.record_entries.proofs.first_fault_of.Goals as goal

pub slice_bounds-first_fault-end : goal.slice_bounds-first_fault-end
slice_bounds-first_fault-end c = simp length-take (omega arith)

pub first_fault-requires : goal.first_fault-requires
first_fault-requires c = simp length-take (omega arith)
