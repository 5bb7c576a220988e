-- `four_entries::followed` meets its contract: nothing is shifted out, and the low bits are free.
use native.Mathlib.Omega.{arith}
use mathlib.Core.Path.{ap, ◌∙◌}
use Prim.Native.Nat.{ℕ}
use lib.Bits.{bit_or, or_shifted}
use lib.Pow.{shl_exact}
use Rattle.four_entries.proofs.followed.Goals as goal

pub returns : goal.returns
returns c = let a = c.args in ap (λ (n : ℕ). bit_or n a.b) (shl_exact 48 a.width 64 (omega arith) (omega arith)) ∙ or_shifted a.a a.width a.b (omega arith)
