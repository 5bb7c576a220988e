use Prim.Native.Nat.{◌-◌}
use lib.ListN.{length}
use Rattle.clade_calls.proofs.Filling.{Filling}
use Rattle.clade_calls.proofs.clade_table.Given as goal

-- what stands at each turn
abbrev pub invariant-loop-held : goal.invariant-loop-held
invariant-loop-held l = Filling l.archive l.fn.out l.answer l.i l.held.words l.out

-- a turn that stores has an entry left
abbrev pub decreases-loop-held : goal.decreases-loop-held
decreases-loop-held l = length l.out - l.i
