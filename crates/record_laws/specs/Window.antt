-- A bit field from a word: the value of w bits that start anywhere in k bytes, one law over the bytes, the offset and the width. Main definitions:
-- value_at, word_at.
use Rattle.std.specs.Prelude.{List, ℕ, zero, suc, ◌+◌, ◌*◌, take, drop, get_or}
use Rattle.rules.specs.Record.{number, bits_of}

-- the number of w bits from bit at on
unfoldable pub value_at : List ℕ → ℕ → ℕ → ℕ
value_at s at w = number (take w (drop at (bits_of s)))

-- k bytes from byte q on as one number, 0 past the end
unfoldable pub word_at : ℕ → List ℕ → ℕ → ℕ
word_at zero s q = 0
word_at (suc k) s q = word_at k s q * 256 + get_or s (q + k) 0
