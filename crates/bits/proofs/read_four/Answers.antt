-- `bits::read_four` meets its contract: each field by the shifts and the mask (`four_there`).
use native.Mathlib.Omega.{arith}
use mathlib.Core.Path.{refl}
use Rattle.bits.proofs.Four.{four_there}
use Rattle.bits.proofs.read_four.Goals as goal

pub returns : goal.returns
returns c = let a = c.args in (
  refl,
  four_there a.s.now a.at a.width (λ i. (c.type_inv.s i).fits) (omega arith) (omega arith) a.out.now a.i
      c.eight_inside.ensures c.low_bits.ensures c.low_bits-2.ensures c.low_bits-3.ensures c.low_bits-4.ensures,
)
