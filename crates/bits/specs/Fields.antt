-- Fields read into a buffer: one, and four of one width.
-- Main definitions: field_read, four_read, FieldInside, FourInside.
use Rattle.std.specs.Prelude.{List, ℕ, ◌+◌, ◌*◌, ◌/◌, ◌^◌, ◌≤◌, ◌<◌, length, set}
use Rattle.record_laws.specs.Window.{value_at}

-- the number of a field of w bits from bit at on, in place i
unfoldable pub field_read : List ℕ → ℕ → ℕ → List ℕ → ℕ → List ℕ
field_read s at w out i = set out i (value_at s at w)

-- the numbers of four fields of w bits from bit at on, in four places from i on
unfoldable pub four_read : List ℕ → ℕ → ℕ → List ℕ → ℕ → List ℕ
four_read s at w out i = field_read s (at + 3 * w) w (field_read s (at + 2 * w) w (field_read s (at + w) w (field_read s at w out i) (i + 1)) (i + 2)) (i + 3)

-- the field lies within the bytes, and there is a place for it
abbrev pub FieldInside : List ℕ → ℕ → ℕ → ℕ → ℕ → Type 0
FieldInside s at w room i = (w ≤ 16) × (at + w ≤ 8 * length s) × (at + w < 2 ^ 64) × (i < room)

-- the four fields lie in a word within the bytes, and there are places for them
abbrev pub FourInside : List ℕ → ℕ → ℕ → ℕ → ℕ → Type 0
FourInside s at w room i = (1 ≤ w) × (w ≤ 14) × (at / 8 + 8 ≤ length s) × (at + 4 * w < 2 ^ 64) × (i + 4 ≤ room)
