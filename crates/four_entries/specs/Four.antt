-- Four numbers of one width made one.
-- Main definitions: four_of.
use Rattle.std.specs.Prelude.{List, ℕ, ◌+◌, ◌*◌, ◌^◌, get_or}

-- four numbers of w bits from place i on, as one
unfoldable pub four_of : List ℕ → ℕ → ℕ → ℕ
four_of v i w = ((get_or v i 0 * 2 ^ w + get_or v (i + 1) 0) * 2 ^ w + get_or v (i + 2) 0) * 2 ^ w + get_or v (i + 3) 0
