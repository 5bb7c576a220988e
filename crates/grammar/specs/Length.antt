-- The length of a tree's text hangs on its number of leaves alone. Main definitions: text_length.
use Rattle.std.specs.Prelude.{ℕ, ◌+◌, ◌-◌, ◌*◌}
use Rattle.basics.specs.Sums.{sum_below}
use Rattle.grammar.specs.Decimal.{digit_count}

-- the digits of 0 to n-1, three signs for each of the n-1 pairs, and the sign at the end
unfoldable pub text_length : ℕ → ℕ
unfolding sum_below digit_count
text_length n = sum_below digit_count n + 3 * (n - 1) + 1
