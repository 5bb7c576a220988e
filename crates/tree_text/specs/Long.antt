-- The length of a text in closed form: each label has a digit, and one more for each of 10, 100 and 1,000 that it reaches.
-- Main results: digits_sum, length_closed.
use Rattle.std.specs.Prelude.{◌≡◌, refl, ℕ, zero, suc, ◌+◌, ◌-◌, ◌*◌}
use Rattle.std.proofs.Common.{arith}
use Rattle.std.proofs.lemmas.Bool.Decides.{nat_tests}
use Rattle.grammar.specs.Decimal.{digit_count}
use Rattle.basics.specs.Sums.{sum_below}
use Rattle.grammar.specs.Length.{text_length}

one_more : (n : ℕ) → n + (n - 10) + (n - 100) + (n - 1000) + digit_count n ≡ suc n + (suc n - 10) + (suc n - 100) + (suc n - 1000)
unfolding digit_count
one_more n = grind (arith, nat_tests)

pub digits_sum : (n : ℕ) → sum_below digit_count n ≡ n + (n - 10) + (n - 100) + (n - 1000)
unfolding sum_below
digits_sum zero = refl
digits_sum (suc n) = omega (arith, digits_sum n, one_more n)

pub length_closed : (n a b c : ℕ) → a ≡ n - 10 → b ≡ n - 100 → c ≡ n - 1000 → n + 3 * (n - 1) + 1 + a + b + c ≡ text_length n
unfolding text_length
length_closed n a b c p q r = omega (arith, digits_sum n)
