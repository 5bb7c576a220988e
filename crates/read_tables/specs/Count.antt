-- How many numbers below n pass a test. Main definitions: bit, count.
use Rattle.std.specs.Prelude.{Bool, true, false, ℕ, zero, suc, ◌+◌}

unfoldable pub bit : Bool → ℕ
bit true = 1
bit false = 0

-- how many numbers below n pass the test
unfoldable pub count : (ℕ → Bool) → ℕ → ℕ
count f zero = 0
count f (suc n) = bit (f n) + count f n
