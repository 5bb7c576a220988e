-- Bits in a row and the number they stand for, most significant first: one law over the width. Main definitions: AreBits.
use Rattle.std.specs.Prelude.{[], ◌∷◌, ◌<◌}
use Rattle.rules.specs.Record.{Bits}

-- each of the bits is 0 or 1
unfoldable pub AreBits : Bits → Type 0
AreBits [] = Unit {0}
AreBits (b ∷ bs) = (b < 2) × AreBits bs
