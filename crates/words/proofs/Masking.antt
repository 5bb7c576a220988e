-- The low bits of a word by a mask.
-- Main result: masked.
use mathlib.Core.Path.{◌≡◌, ap, ◌∙◌}
use Prim.Native.Nat.{ℕ, ◌-◌, ◌*◌, ◌%◌, ◌≤◌, ◌^◌}
use native.Mathlib.Nat.{one-mul, mod-eq_of_lt}
use native.Mathlib.Omega.{arith}
use lib.Bits.{bit_and, and_mask}
use lib.Pow.{pow-lt}

mask : (w : ℕ) → w ≤ 16 → 1 * 2 ^ w % 2 ^ 64 ≡ 2 ^ w
mask w h = ap (λ (n : ℕ). n % 2 ^ 64) (one-mul (2 ^ w)) ∙ mod-eq_of_lt (pow-lt {i = w} {j = 64} (omega arith))

pub masked : (w x : ℕ) → w ≤ 16 → bit_and x (1 * 2 ^ w % 2 ^ 64 - 1) ≡ x % 2 ^ w
masked w x h = rw (mask w h) (and_mask x w)
