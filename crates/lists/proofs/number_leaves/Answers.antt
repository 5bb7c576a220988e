-- `number_leaves` meets its contract: the leaves below c have their numbers.
use mathlib.Core.Path.{refl}
use Rattle.lists.specs.Leaves.{leaves_next}
use native.Mathlib.Omega.{arith}
use Rattle.lists.proofs.number_leaves.Goals as goal

pub loop-c-init : goal.loop-c-init
loop-c-init c = record { few = c.requires.1; room = c.requires.0; high = omega arith; same = refl; itself = λ x l. absurd (omega arith) }

pub loop-c-preserved : goal.loop-c-preserved
loop-c-preserved c = leaves_next c.loop-c.invariant c.loop-c-test.true

pub shape_of-number : goal.shape_of-number
shape_of-number c = c.loop-c.invariant.same

pub returns : goal.returns
returns c = λ x l. c.loop-c.invariant.itself x (omega arith)
