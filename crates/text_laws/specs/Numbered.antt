-- The numbers of the two children of a recorded pair, among n leaves.
-- Main definitions: first_number, second_number.
use Rattle.std.specs.Prelude.{ℕ, ◌/◌, ◌%◌}
use Rattle.grammar.specs.Closed.{child_number}

abbrev pub first_number : ℕ → ℕ → ℕ
first_number n p = child_number n (p / 65536)

abbrev pub second_number : ℕ → ℕ → ℕ
second_number n p = child_number n (p % 65536)
