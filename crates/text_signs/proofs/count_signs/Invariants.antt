-- `count_signs` meets its contract: of the bytes looked at so many are signs.
use Rattle.text_signs.proofs.Looks.{Counting}
use Rattle.text_signs.proofs.count_signs.Given as goal

abbrev pub invariant-loop-c : goal.invariant-loop-c
invariant-loop-c l = Counting l.s l.count l.c-index
