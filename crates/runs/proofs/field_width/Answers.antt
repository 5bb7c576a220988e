-- `runs::field_width` meets its contract: the bits that a number needs, from its leading zeros (`needed_leading`).
use native.Mathlib.Omega.{arith}
use Prim.Native.Nat.{◌-◌, ◌*◌}
use lib.Count.{leading_le}
use Rattle.rules.specs.Vector.{bound}
use Rattle.rules.specs.Record.{width}
use Rattle.record_laws.proofs.Width.{needed_leading}
use Rattle.runs.proofs.field_width.Goals as goal

pub overflow_sub-result-2 : goal.overflow_sub-result-2
overflow_sub-result-2 c = leading_le 32 _

pub returns : goal.returns
unfolding width bound
returns c = omega (arith, needed_leading 32 (2 * (c.args.i - 1)) (omega arith))
