-- `renaming::rename` meets its contract. The loop's invariant: the first children have been renamed.
use Rattle.renaming.specs.Renames.{renamed_start, renamed_step, renamed_all}
use native.Mathlib.Omega.{arith}
use Rattle.renaming.proofs.rename.Goals as goal

pub loop-child-init : goal.loop-child-init
loop-child-init c = renamed_start _ _ _

pub loop-child-preserved : goal.loop-child-preserved
loop-child-preserved c = renamed_step _ _ _ _ _ c.loop-child.invariant (omega arith) c.renamed_child.ensures

pub returns : goal.returns
returns c = renamed_all _ _ _ _ _ c.loop-child.invariant (omega arith)
