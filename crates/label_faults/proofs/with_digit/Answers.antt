use native.Mathlib.Omega.{arith}
use Rattle.rules.specs.Newick.{with_digit}
use Rattle.text_laws.proofs.Bytes.{digit_range}
use Rattle.label_faults.proofs.with_digit.Goals as goal

pub overflow_sub-value : goal.overflow_sub-value
overflow_sub-value c = omega (arith, (digit_range _ c.requires.0).0)

pub returns-in-Some : goal.returns-in-Some
unfolding with_digit
returns-in-Some c = rw c.in-Some.is

pub returns-in-None : goal.returns-in-None
unfolding with_digit
returns-in-None c = rw c.in-None.is
