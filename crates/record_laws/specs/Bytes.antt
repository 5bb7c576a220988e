-- Bits in bytes: packing bits into bytes and taking the bits of bytes are inverse, up to zero bits at the end. Main definitions: AreBytes, byte_at.
use Rattle.std.specs.Prelude.{List, [], ◌∷◌, ◌++◌, ℕ, ◌*◌, ◌<◌, take, drop, replicate}
use Rattle.rules.specs.Record.{Bits, number}

-- each of the numbers is a byte
unfoldable pub AreBytes : List ℕ → Type 0
AreBytes [] = Unit {0}
AreBytes (b ∷ s) = (b < 256) × AreBytes s

-- byte number k of packed bits
unfoldable pub byte_at : Bits → ℕ → ℕ
byte_at bs k = number (take 8 (drop (8 * k) bs ++ replicate 8 0))
