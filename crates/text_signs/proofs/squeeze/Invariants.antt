use Rattle.text_signs.proofs.Squeezing.{Squeezing}
use Rattle.text_signs.proofs.squeeze.Given as goal

abbrev pub invariant-loop-i : goal.invariant-loop-i
invariant-loop-i l = Squeezing l.s l.signs l.last l.q l.i
