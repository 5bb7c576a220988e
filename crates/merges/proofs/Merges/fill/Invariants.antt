-- `fill` meets its contract: the lists hold the merges of the first i entries.
use Rattle.merges.specs.Built.{Built}
use Rattle.merges.proofs.Merges.fill.Given as goal

abbrev pub invariant-loop-i : goal.invariant-loop-i
invariant-loop-i l = Built l.v l.self.list l.self.small l.lo l.i
