use Rattle.text_signs.proofs.Looks.{Placing}
use Rattle.text_signs.proofs.place_of.Given as goal

abbrev pub invariant-loop-i : goal.invariant-loop-i
invariant-loop-i l = Placing l.s l.k l.left l.i
