-- `bits::field_at` meets its contract: the shift and the mask take the field out of the four bytes where it starts (`value_word`).
use native.Mathlib.Omega.{arith}
use mathlib.Core.Path.{◌≡◌, sym, ap, ◌∙◌}
use Prim.Native.Nat.{ℕ, ◌+◌, ◌*◌, ◌/◌, ◌%◌}
use Rattle.record_laws.specs.Window.{value_at}
use Rattle.record_laws.proofs.Window.{value_word}
use Rattle.bits.proofs.field_at.Goals as goal

pub returns : goal.returns
returns c = let a = c.args in
    let e : a.at ≡ 8 * (a.at / 8) + a.at % 8 = omega arith in
    c.low_bits.ensures
    ∙ rw c.four_at.ensures
    (sym (ap (λ (k : ℕ). value_at a.s.now k a.width) e ∙ value_word 4 a.s.now (a.at / 8) (a.at % 8) a.width (λ i. (c.type_inv.s i).fits) (omega arith) (omega arith)))
