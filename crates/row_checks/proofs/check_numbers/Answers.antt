use Rattle.std.proofs.Common.{sym}
use Rattle.row_checks.specs.Verdict.{wrong_parent, wrong_child, well_placed}
use Rattle.row_checks.specs.Misplaced.{of_parent, of_child}
use native.Mathlib.Omega.{arith}
use Rattle.row_checks.proofs.check_numbers.Goals as goal

pub returns-then-parent-p : goal.returns-then-parent-p
returns-then-parent-p c = (sym (wrong_parent _ _ _ _ c.if-parent-p.true), of_parent _ _ _ c.if-parent-p.true)

pub returns-then-p-l : goal.returns-then-p-l
returns-then-p-l c = (wrong_child _ _ _ _ c.if-parent-p.false (omega (arith, c.then-p-l.either)), of_child _ _ _ c.if-parent-p.false)

pub returns : goal.returns
returns c = well_placed _ _ _ _ c.if-parent-p.false (omega arith)
