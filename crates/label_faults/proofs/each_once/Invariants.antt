use Rattle.label_faults.specs.Marks.{Counted}
use Rattle.label_faults.proofs.each_once.Given as goal

abbrev pub invariant-loop-i : goal.invariant-loop-i
invariant-loop-i l = Counted l.m l.n l.missing l.i
