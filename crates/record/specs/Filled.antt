-- Bytes that the fields of entries fill, up to the padding in the last one.
-- Main definitions: Filled.
use Rattle.std.specs.Prelude.{List, ℕ, ◌+◌, ◌*◌, ◌≤◌, ◌<◌, ◌^◌, length}
use Rattle.rules.specs.Archive.{field_bits}

-- The fields of n entries, from bit start on, end in the last byte. Without fields there need be no byte.
pub record Filled (s : List ℕ) (start n : ℕ) : Type 0 where
  pub some_leaf : 1 ≤ n
  pub few : n ≤ 1024
  pub near : start < 2 ^ 32
  pub inside : start + field_bits n ≤ 8 * length s
  pub last : 8 * length s < start + field_bits n + 8
