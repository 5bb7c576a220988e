-- The sum of f 0 to f (n-1), and how many numbers below n pass a test. Main definitions: one, sum_below.
use Rattle.std.specs.Prelude.{Bool, cond, ℕ, zero, suc, ◌+◌}

-- 1 where a test passes, else 0
unfoldable pub one : Bool → ℕ
one b = cond b 1 0

-- the sum of f 0 to f (n-1)
unfoldable pub sum_below : (ℕ → ℕ) → ℕ → ℕ
sum_below f zero = 0
sum_below f (suc n) = sum_below f n + f n
